use Rattle.std.proofs.Common.{ap, sym, ◌∙◌}
use Rattle.port_inbox.specs.Gathering.{later_of}
use Rattle.port_inbox.proofs.Latest.{later_assoc, later_none, latest_end, latest_next}
use Rattle.port_inbox.proofs.kept.latest.Goals as goal

pub loop-item-preserved : goal.loop-item-preserved
loop-item-preserved c =
    rw (c.later-found.ensures, c.time_sent.ensures, later_assoc, c.item-item.is) (c.loop-item.invariant ∙ ap (later_of c.loop-item.found) (latest_next _ _ c.item-item.result c.loop-item-test.true))

pub returns : goal.returns
returns c = sym (later_none _) ∙ ap (later_of c.loop-item.found) (sym (latest_end _ _ c.loop-item-test.false)) ∙ sym c.loop-item.invariant
