use Rattle.std.proofs.Common.{◌≡◌, ◌<◌, ℕ, length}
use Rattle.std.specs.Prelude.{slice_index}
use Rattle.step_core.specs.Releasing.{steps_before}
use Rattle.step_core.proofs.releasing.count_before.Given as goal

abbrev pub invariant-loop-app : goal.invariant-loop-app
invariant-loop-app l = record {
  counted : length l.counts ≡ length l.initial.counts;
  each : (a : ℕ) → a < l.app → slice_index l.counts a ≡ steps_before l.scene l.least a;
}
