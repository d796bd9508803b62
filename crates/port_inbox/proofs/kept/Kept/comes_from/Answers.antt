use Rattle.std.proofs.Common.{ap, sym, ◌∙◌}
use Rattle.port_inbox.specs.Gathering.{is_time_from}
use Rattle.port_inbox.proofs.Latest.{latest_from}
use Rattle.port_inbox.proofs.kept.Kept.comes_from.Goals as goal

pub returns-in-Some : goal.returns-in-Some
returns-in-Some c =
    rw (← c.self.view_is) (ap (is_time_from c.args.from) (sym c.in-Some.is ∙ c.self.invariant.0) ∙ latest_from c.args.from c.self.inside.block.items)

pub returns-in-None : goal.returns-in-None
returns-in-None c =
    rw (← c.self.view_is) (ap (is_time_from c.args.from) (sym c.in-None.is ∙ c.self.invariant.0) ∙ latest_from c.args.from c.self.inside.block.items)
