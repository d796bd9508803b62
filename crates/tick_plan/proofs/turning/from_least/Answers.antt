use Rattle.std.proofs.Common.{◌≡◌, ℕ, ◌<◌, ◌≤◌, All, get_or, List, length, take, drop, ◌++◌}
use Rattle.scene_model.specs.declared.wait.Wait.{Wait}
use Rattle.tick_plan.proofs.turning.from_least.Goals as goal

turned : (waits cycle new : List Wait) (k : ℕ) → waits ≡ cycle → new ≡ drop k cycle ++ take k cycle → k < length waits →
    ((d : Wait) → All (λ w. (get_or waits k d).waiter ≤ w.waiter) waits) →
    (k : ℕ) × (k < length cycle) × ((d : Wait) → All (λ w. (get_or cycle k d).waiter ≤ w.waiter) cycle) × (new ≡ drop k cycle ++ take k cycle)
turned waits cycle new k same e lt least = (k, rw same at lt, rw same at least, e)

pub returns : goal.returns
returns c = turned _ _ _ _ c.deref.ensures.value c.rotate_left.ensures.items c.least_place-place.ensures.within c.least_place-place.ensures.least
