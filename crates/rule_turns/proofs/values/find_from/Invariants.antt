use Rattle.std.proofs.Common.{◌≡◌, ◌≤◌, ℕ, drop}
use Rattle.rule_turns.specs.OneRule.{found_value}
use Rattle.rule_turns.proofs.values.find_from.Given as goal

abbrev pub invariant-loop-place : goal.invariant-loop-place
invariant-loop-place l = (g : ℕ) → l.index ≤ g → found_value (drop l.near l.block) g ≡ found_value (drop l.place l.block) g
