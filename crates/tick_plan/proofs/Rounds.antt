-- What a round over the waits keeps, from one wait to the next.
use Rattle.std.proofs.Common.{◌≡◌, ℕ, ◌+◌, ◌<◌, ◌≤◌, Bool, true, false, List, slice_index_or, refl, arith, below_more}
use mathlib.Core.Bool.{◌||◌}
use Rattle.std.specs.Bool.{OnTrue, OnFalse}
use Rattle.scene_model.specs.declared.wait.Wait.{Wait}
use Rattle.tick_plan.specs.Heights.{IsRelaxed, gap_of}

-- while none has raised its waiter, all so far are relaxed
pub relaxed_step : (raised more : Bool) (n at : ℕ) (waits : List Wait) (old new : List ℕ) →
    OnFalse more ((d : Wait) → IsRelaxed n old (slice_index_or waits at d)) → OnFalse more (new ≡ old) →
    (raised ≡ false → (k : ℕ) (d : Wait) → k < at → IsRelaxed n old (slice_index_or waits k d)) →
    (raised || more) ≡ false → (k : ℕ) (d : Wait) → k < at + 1 → IsRelaxed n new (slice_index_or waits k d)
relaxed_step true more n at waits old new relaxed same before e = absurd (cc)
relaxed_step false true n at waits old new relaxed same before e = absurd (cc)
relaxed_step false false n at waits old new relaxed same before e = λ k d lt.
    let P : ℕ → Type 0 = λ j. IsRelaxed n old (slice_index_or waits j d) in
    rw same (below_more P at (λ j below. before refl j d below) (relaxed d) k lt)

-- the gap does not grow
pub gap_step : (raised more : Bool) (old new : List ℕ) (g : ℕ) → OnFalse more (new ≡ old) → OnTrue more (gap_of new < gap_of old) → gap_of old ≤ g → gap_of new ≤ g
gap_step raised true old new g same less no_more = omega (arith, less)
gap_step raised false old new g same less no_more = rw same no_more

-- and falls once one has
pub less_step : (raised more : Bool) (old new : List ℕ) (g : ℕ) → OnFalse more (new ≡ old) → OnTrue more (gap_of new < gap_of old) → gap_of old ≤ g →
    (raised ≡ true → gap_of old < g) → (raised || more) ≡ true → gap_of new < g
less_step raised true old new g same less no_more before e = omega (arith, less)
less_step true false old new g same less no_more before e = rw same (before refl)
less_step false false old new g same less no_more before e = absurd (cc)
