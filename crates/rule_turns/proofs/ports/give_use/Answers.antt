use Rattle.std.proofs.Common.{◌≡◌, refl, None, slice_get}
use Rattle.std.proofs.lemmas.Option.{slice_get_past}
use Rattle.rule_turns.specs.Turning.{seen, use_gives}
use Rattle.rule_turns.proofs.Ascending.{overlay-none}
use Rattle.rule_turns.proofs.ports.give_use.Goals as goal

pub returns-in_default : goal.returns-in_default
returns-in_default c =
    let none : slice_get c.args.step.now.rules.now c.args.part.rule ≡ None = slice_get_past c.args.step.now.rules.now c.args.part.rule c.in_default.ensures.lookup.3 in
    overlay-none (use_gives (seen c.args.step.now) c.args.part) c.args.items.now (λ g. rw none refl)
