use Rattle.std.proofs.Common.{ℕ, ◌<◌, ◌≤◌, get_or, length}
use Rattle.scene_model.specs.declared.wait.Wait.{Wait}
use Rattle.tick_plan.proofs.turning.least_place.Given as goal

abbrev pub invariant-loop-i : goal.invariant-loop-i
invariant-loop-i l = record {
  within : l.best < length l.cycle;
  least : (k : ℕ) (d : Wait) → k < l.i → (get_or l.cycle l.best d).waiter ≤ (get_or l.cycle k d).waiter;
}
