use Rattle.std.proofs.Common.{◌≡◌, ◌≤◌, ◌++◌, ℕ, drop, take}
use Rattle.rule_turns.specs.OneRule.{copied, found_value}
use Rattle.rule_turns.specs.Turning.{AreAscending, overlay}
use Rattle.rule_turns.proofs.values.copy_values.Given as goal

abbrev pub invariant-loop-i : goal.invariant-loop-i
invariant-loop-i l = record {
  least : ℕ;
  ascend : AreAscending least (drop l.i l.items);
  past : (g : ℕ) → least ≤ g → found_value l.block g ≡ found_value (drop l.near l.block) g;
  made : overlay (copied l.scale.numerator l.scale.denominator l.scale.add l.block) l.initial.items
      ≡ take l.i l.items ++ overlay (copied l.scale.numerator l.scale.denominator l.scale.add l.block) (drop l.i l.items);
}
