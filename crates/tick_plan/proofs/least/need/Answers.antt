use Rattle.std.proofs.Common.{◌≡◌, ℕ, ◌≤◌, ◌*◌, ◌^◌, List, All, length, ℤ, pos, ◌+ℤ◌, ◌-ℤ◌, ◌≤ℤ◌, ◌<ℤ◌, to_z, of_z, slice_index, ap, arith}
use Rattle.std.proofs.lemmas.Int.{ints}
use mir.Syntax.{w128}
use Rattle.scene_model.specs.Cover.{IsWithin, greatest_number}
use Rattle.scene_model.specs.Limits.{most_apps}
use Rattle.scene_model.specs.declared.wait.Wait.{Wait}
use Rattle.tick_plan.specs.Bounds.{greatest_rise, greatest_height, greatest_start}
use Rattle.tick_plan.specs.Heights.{rise_of}
use Rattle.tick_plan.specs.Room.{need_of}
use Rattle.tick_plan.proofs.Signed.{sum_fits}
use Rattle.tick_plan.proofs.least.need.Goals as goal

-- the sum and the difference as the code has them
abbrev in_code : ℤ → ℕ → ℕ → ℤ
in_code r a b = to_z w128 (of_z w128 (to_z w128 (of_z w128 (to_z w128 (of_z w128 r) +ℤ to_z w128 a)) -ℤ to_z w128 b))

-- at numbers well within their type
plain : (r : ℤ) (a b : ℕ) → r ≤ℤ pos greatest_rise → pos 0 ≤ℤ (r +ℤ pos (2 * most_apps * greatest_number)) → a ≤ greatest_height → b ≤ greatest_height →
    in_code r a b ≡ r +ℤ pos a -ℤ pos b
plain r a b high low ha hb = omega (arith, ints)

small_is : (r : ℤ) (a b : ℕ) → r ≤ℤ pos greatest_rise → pos 0 ≤ℤ (r +ℤ pos (2 * most_apps * greatest_number)) → a ≤ greatest_height → b ≤ greatest_height →
    greatest_start ≤ b → in_code r a b <ℤ pos (2 ^ 64)
small_is r a b high low ha hb start = omega (arith, ints, plain r a b high low ha hb)

need_is : (n : ℕ) (w : Wait) (heights : List ℕ) (r : ℤ) (u v : ℕ) → u ≡ w.waiter → v ≡ w.awaited → IsWithin n w → length heights ≡ n → All (λ h. h ≤ greatest_height) heights →
    r ≡ rise_of n w → r ≤ℤ pos greatest_rise → pos 0 ≤ℤ (r +ℤ pos (2 * most_apps * greatest_number)) → in_code r (slice_index heights v) (slice_index heights u) ≡ need_of n w heights
need_is n w heights r u v u_is v_is within counted top value high low =
    let a = top w.awaited 0 (omega (arith, within.awaited, counted)) in
    let b = top w.waiter 0 (omega (arith, within.waiter, counted)) in
    rw (u_is, v_is) (omega (arith, ints, value, plain r (slice_index heights w.awaited) (slice_index heights w.waiter) high low a b))

need_small : (n : ℕ) (w : Wait) (heights : List ℕ) (r : ℤ) (u v : ℕ) → u ≡ w.waiter → v ≡ w.awaited → IsWithin n w → length heights ≡ n → All (λ h. h ≤ greatest_height) heights →
    greatest_start ≤ slice_index heights w.waiter → r ≤ℤ pos greatest_rise → pos 0 ≤ℤ (r +ℤ pos (2 * most_apps * greatest_number)) →
    in_code r (slice_index heights v) (slice_index heights u) <ℤ pos (2 ^ 64)
need_small n w heights r u v u_is v_is within counted top start high low =
    let a = top w.awaited 0 (omega (arith, within.awaited, counted)) in
    let b = top w.waiter 0 (omega (arith, within.waiter, counted)) in
    rw (u_is, v_is) (small_is r (slice_index heights w.awaited) (slice_index heights w.waiter) high low a b start)

pub returns-clause-value : goal.returns-clause-value
returns-clause-value c =
    need_is _ c.args.wait.now _ _ _ _ (ap (λ (w : Wait). w.waiter) c.wait.view_is) (ap (λ (w : Wait). w.awaited) c.wait.view_is) c.requires.within c.requires.counted c.requires.top
    c.rise.ensures.value c.rise.ensures.high c.rise.ensures.low

pub returns-clause-small : goal.returns-clause-small
returns-clause-small c =
    need_small _ c.args.wait.now _ _ _ _ (ap (λ (w : Wait). w.waiter) c.wait.view_is) (ap (λ (w : Wait). w.awaited) c.wait.view_is) c.requires.within c.requires.counted c.requires.top
    c.requires.start c.rise.ensures.high c.rise.ensures.low

pub overflow_add-result : goal.overflow_add-result
overflow_add-result c =
    let awaited = ap (λ (w : Wait). w.awaited) c.wait.view_is in
    sum_fits c.rise.result _ c.rise.ensures.high c.rise.ensures.low (c.requires.top _ 0 (omega (arith, c.requires.within.awaited, c.requires.counted, awaited)))
