use Rattle.std.proofs.Common.{◌≡◌, ◌<◌, ℕ}
use Rattle.app_turn.specs.Steps.{begins_at}
use Rattle.app_turn.proofs.blocks.is_last.Given as goal

abbrev pub invariant-loop-later : goal.invariant-loop-later
invariant-loop-later l = (i : ℕ) → l.place < i → i < l.later → begins_at l.scene l.out i ≡ begins_at l.scene l.out l.place → ⊥
