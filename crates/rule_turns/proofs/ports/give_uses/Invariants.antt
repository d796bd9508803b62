use Rattle.std.proofs.Common.{◌≡◌, ℕ, List, drop}
use Rattle.std.specs.List.{AllByRecursion}
use Rattle.music_base.specs.Items.{AreValues}
use Rattle.rule_turns.specs.Turning.{AreAscending, IsPlaced, overlaid, seen}
use Rattle.rule_turns.proofs.ports.give_uses.Given as goal

abbrev pub invariant-loop-part : goal.invariant-loop-part
invariant-loop-part l = record {
  gs : List ℕ;
  values : AreValues gs l.items;
  ascend : AreAscending 0 l.items;
  placed : AllByRecursion (IsPlaced l.step.rules.now l.step.inputs.now gs) (drop l.part-index l.uses);
  given : overlaid (seen l.step) l.uses l.initial.items ≡ overlaid (seen l.step) (drop l.part-index l.uses) l.items;
}
