use Rattle.std.proofs.Common.{◌≡◌, ℕ, ◌≤◌, ◌*◌, pos, ℤ, ◌+ℤ◌, ◌-ℤ◌, ◌*ℤ◌, ◌≤ℤ◌, FitsSigned, to_z, of_z, arith, ap, ◌∙◌}
use Rattle.std.proofs.lemmas.Int.{ints, unsigned_abs-mul}
use Rattle.std.proofs.Math.Nat.{mul-le-mul}
use Rattle.std.specs.Int.RustNames.{unsigned_abs}
use mir.Syntax.{w128}
use Rattle.scene_model.specs.Cover.{IsWithin, greatest_number}
use Rattle.scene_model.specs.Limits.{most_apps}
use Rattle.scene_model.specs.declared.wait.Wait.{Wait}
use Rattle.tick_plan.specs.Heights.{rise_of}
use Rattle.tick_plan.proofs.Walks.{rise_of-le_greatest}
use Rattle.tick_plan.proofs.rising.rise.Goals as goal

excess_is : (n : ℕ) (w : Wait) → IsWithin n w → to_z w128 (of_z w128 (to_z w128 (of_z w128 w.allowance) -ℤ to_z w128 (of_z w128 w.burden))) ≡ w.allowance -ℤ w.burden
excess_is n w h = omega (arith, ints, h.allowance_low, h.allowance_high, h.burden_low, h.burden_high)

excess_abs : (n : ℕ) (w : Wait) → IsWithin n w → unsigned_abs (w.allowance -ℤ w.burden) ≤ 2 * greatest_number
excess_abs n w h = omega (arith, ints, h.allowance_low, h.allowance_high, h.burden_low, h.burden_high)

-- the product as the code writes it
abbrev product : ℕ → Wait → ℤ
product n w = to_z w128 n *ℤ to_z w128 (of_z w128 (to_z w128 (of_z w128 w.allowance) -ℤ to_z w128 (of_z w128 w.burden)))

product_is : (n : ℕ) (w : Wait) → n ≤ most_apps → IsWithin n w → product n w ≡ pos n *ℤ (w.allowance -ℤ w.burden)
product_is n w few h =
    let e : to_z w128 n ≡ pos n = omega (arith, ints) in
    ap (λ z. z *ℤ to_z w128 (of_z w128 (to_z w128 (of_z w128 w.allowance) -ℤ to_z w128 (of_z w128 w.burden)))) e
    ∙ ap (λ z. pos n *ℤ z) (excess_is n w h)

product_abs : (n : ℕ) (w : Wait) → n ≤ most_apps → IsWithin n w → unsigned_abs (pos n *ℤ (w.allowance -ℤ w.burden)) ≤ most_apps * (2 * greatest_number)
product_abs n w few h = rw unsigned_abs-mul (mul-le-mul few (excess_abs n w h))

product_fits : (n : ℕ) (w : Wait) → n ≤ most_apps → IsWithin n w → FitsSigned w128 (product n w)
product_fits n w few h = rw (product_is n w few h) (let a = product_abs n w few h in omega (arith, ints, a))

rise_fits : (n : ℕ) (w : Wait) → n ≤ most_apps → IsWithin n w → FitsSigned w128 (pos 1 -ℤ to_z w128 (of_z w128 (product n w)))
rise_fits n w few h = let a = product_abs n w few h in omega (arith, ints, a, product_is n w few h, product_fits n w few h)

rise_is : (n : ℕ) (w : Wait) → n ≤ most_apps → IsWithin n w → to_z w128 (of_z w128 (pos 1 -ℤ to_z w128 (of_z w128 (product n w)))) ≡ rise_of n w
rise_is n w few h = omega (arith, ints, rise_fits n w few h, product_is n w few h, product_fits n w few h)

rise-ge : (n : ℕ) (w : Wait) → n ≤ most_apps → IsWithin n w → pos 0 ≤ℤ (rise_of n w +ℤ pos (2 * most_apps * greatest_number))
rise-ge n w few h = let a = product_abs n w few h in omega (arith, ints, a)

pub overflow_mul-result : goal.overflow_mul-result
overflow_mul-result c = product_fits _ _ c.requires.few c.requires.within

pub overflow_sub-result-2 : goal.overflow_sub-result-2
overflow_sub-result-2 c = rise_fits _ _ c.requires.few c.requires.within

pub returns : goal.returns
returns c =
    let e = rise_is _ _ c.requires.few c.requires.within in
    record { value = e; high = rw e (rise_of-le_greatest c.args.applications c.args.wait.now c.requires.few c.requires.within.shortfall); low = rw e (rise-ge _ _ c.requires.few c.requires.within) }
