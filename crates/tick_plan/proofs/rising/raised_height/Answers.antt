-- The test and the height as the code has them.
use Rattle.std.proofs.Common.{◌≡◌, ℕ, ◌*◌, ◌<◌, ◌≤◌, true, false, List, All, length, ℤ, pos, ◌+ℤ◌, ◌≤ℤ◌, to_z, of_z, slice_index, ap, arith, ◌∙◌}
use Rattle.std.proofs.lemmas.Int.{ints}
use lib.IntN.{nat_abs}
use lib.Signed.{le_z}
use mir.Syntax.{w128}
use Rattle.scene_model.specs.Cover.{IsWithin, greatest_number}
use Rattle.scene_model.specs.Limits.{most_apps}
use Rattle.scene_model.specs.declared.wait.Wait.{Wait}
use Rattle.tick_plan.specs.Bounds.{greatest_rise, greatest_height}
use Rattle.tick_plan.specs.Heights.{IsRelaxed, rise_of}
use Rattle.tick_plan.proofs.Signed.{test_true, test_false, is_above, sum_fits}
use Rattle.tick_plan.proofs.rising.raised_height.Goals as goal

abbrev sum_in_code : ℤ → ℕ → ℤ
sum_in_code r a = to_z w128 (of_z w128 (to_z w128 (of_z w128 r) +ℤ to_z w128 a))

-- at numbers well within their type
sum_is : (r : ℤ) (a : ℕ) → r ≤ℤ pos greatest_rise → pos 0 ≤ℤ (r +ℤ pos (2 * most_apps * greatest_number)) → a ≤ greatest_height → sum_in_code r a ≡ r +ℤ pos a
sum_is r a high low small = omega (arith, ints)

cast_is : (b : ℕ) → b ≤ greatest_height → to_z w128 b ≡ pos b
cast_is b small = omega (arith, ints)

relaxed : (n : ℕ) (w : Wait) (heights : List ℕ) (r : ℤ) (u v : ℕ) → u ≡ w.waiter → v ≡ w.awaited → IsWithin n w → length heights ≡ n → All (λ h. h ≤ greatest_height) heights →
    r ≡ rise_of n w → r ≤ℤ pos greatest_rise → pos 0 ≤ℤ (r +ℤ pos (2 * most_apps * greatest_number)) →
    le_z (sum_in_code r (slice_index heights v)) (to_z w128 (slice_index heights u)) ≡ true → IsRelaxed n heights w
relaxed n w heights r u v u_is v_is within counted top value high low test =
    let a = top w.awaited 0 (omega (arith, within.awaited, counted)) in
    let b = top w.waiter 0 (omega (arith, within.waiter, counted)) in
    let here : le_z (sum_in_code r (slice_index heights w.awaited)) (to_z w128 (slice_index heights w.waiter)) ≡ true = rw (u_is, v_is) at test in
    let plain : le_z (r +ℤ pos (slice_index heights w.awaited)) (pos (slice_index heights w.waiter)) ≡ true = rw (sum_is r (slice_index heights w.awaited) high low a, cast_is (slice_index heights w.waiter) b) at here in
    record { relaxed = rw (← value) (test_true _ _ plain) }

-- the height that the wait gives, above that of its waiter
record IsRaised (n : ℕ) (w : Wait) (heights : List ℕ) (raised_to : ℕ) : Type 0 where
  height : pos raised_to ≡ rise_of n w +ℤ pos (slice_index heights w.awaited)
  higher : slice_index heights w.waiter < raised_to

raised : (n : ℕ) (w : Wait) (heights : List ℕ) (r : ℤ) (u v : ℕ) → u ≡ w.waiter → v ≡ w.awaited → IsWithin n w → length heights ≡ n → All (λ h. h ≤ greatest_height) heights →
    r ≡ rise_of n w → r ≤ℤ pos greatest_rise → pos 0 ≤ℤ (r +ℤ pos (2 * most_apps * greatest_number)) →
    le_z (sum_in_code r (slice_index heights v)) (to_z w128 (slice_index heights u)) ≡ false → IsRaised n w heights (nat_abs (sum_in_code r (slice_index heights v)))
raised n w heights r u v u_is v_is within counted top value high low test =
    let a = top w.awaited 0 (omega (arith, within.awaited, counted)) in
    let b = top w.waiter 0 (omega (arith, within.waiter, counted)) in
    let sum = sum_is r (slice_index heights w.awaited) high low a in
    let here : le_z (sum_in_code r (slice_index heights w.awaited)) (to_z w128 (slice_index heights w.waiter)) ≡ false = rw (u_is, v_is) at test in
    let plain : le_z (r +ℤ pos (slice_index heights w.awaited)) (pos (slice_index heights w.waiter)) ≡ false = rw (sum, cast_is (slice_index heights w.waiter) b) at here in
    let above = is_above (r +ℤ pos (slice_index heights w.awaited)) (slice_index heights w.waiter) (test_false _ _ plain) in
    rw (v_is, sum) (record { height = above.is ∙ ap (λ z. z +ℤ pos (slice_index heights w.awaited)) value; higher = above.above })

pub returns-then-height-heights-clause-relaxed : goal.returns-then-height-heights-clause-relaxed
returns-then-height-heights-clause-relaxed c =
    relaxed _ c.args.wait.now _ _ _ _ (ap (λ (w : Wait). w.waiter) c.wait.view_is) (ap (λ (w : Wait). w.awaited) c.wait.view_is) c.requires.within c.requires.counted c.requires.low
    c.rise.ensures.value c.rise.ensures.high c.rise.ensures.low c.if-height-heights.true

pub returns-else-height-heights-clause-height : goal.returns-else-height-heights-clause-height
returns-else-height-heights-clause-height c =
    (raised _ c.args.wait.now _ _ _ _ (ap (λ (w : Wait). w.waiter) c.wait.view_is) (ap (λ (w : Wait). w.awaited) c.wait.view_is) c.requires.within c.requires.counted c.requires.low
    c.rise.ensures.value c.rise.ensures.high c.rise.ensures.low c.if-height-heights.false).height

pub returns-else-height-heights-clause-higher : goal.returns-else-height-heights-clause-higher
returns-else-height-heights-clause-higher c =
    (raised _ c.args.wait.now _ _ _ _ (ap (λ (w : Wait). w.waiter) c.wait.view_is) (ap (λ (w : Wait). w.awaited) c.wait.view_is) c.requires.within c.requires.counted c.requires.low
    c.rise.ensures.value c.rise.ensures.high c.rise.ensures.low c.if-height-heights.false).higher

pub overflow_add-height : goal.overflow_add-height
overflow_add-height c =
    let awaited = ap (λ (w : Wait). w.awaited) c.wait.view_is in
    sum_fits c.rise.result _ c.rise.ensures.high c.rise.ensures.low (c.requires.low _ 0 (omega (arith, c.requires.within.awaited, c.requires.counted, awaited)))
