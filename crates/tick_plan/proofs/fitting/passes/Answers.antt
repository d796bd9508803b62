use Rattle.std.proofs.Common.{◌≡◌, ◌↔◌, ℕ, ◌*◌, All, IsTrue, List, length, get_or, ℤ, pos, ◌+ℤ◌, ◌-ℤ◌, ◌≤ℤ◌, to_z, of_z, ap, refl, arith}
use Rattle.std.proofs.lemmas.Int.{ints}
use Rattle.std.proofs.lemmas.List.Elements.{All-get_or}
use lib.Signed.{le_z}
use mir.Syntax.{w128}
use Rattle.scene_model.specs.Cover.{IsWithin, Passes, greatest_number}
use Rattle.scene_model.specs.Limits.{most_apps}
use Rattle.scene_model.specs.declared.wait.Wait.{Wait}
use Rattle.tick_plan.specs.Bounds.{greatest_rise}
use Rattle.tick_plan.specs.Heights.{rise_of}
use Rattle.tick_plan.specs.Plans.{IsPotential}
use Rattle.tick_plan.proofs.fitting.passes.Goals as goal

-- the test as the code makes it
abbrev in_code : ℤ → ℤ → ℤ → Type 0
in_code r x y = IsTrue (le_z (to_z w128 (of_z w128 r)) (to_z w128 (of_z w128 (to_z w128 (of_z w128 x) -ℤ to_z w128 (of_z w128 y)))))

higher_is : (x y : ℤ) → IsPotential x → IsPotential y → to_z w128 (of_z w128 (to_z w128 (of_z w128 x) -ℤ to_z w128 (of_z w128 y))) ≡ x -ℤ y
higher_is x y hx hy = omega (arith, ints, hx.from, hx.to, hy.from, hy.to)

rise_is : (r : ℤ) → r ≤ℤ pos greatest_rise → pos 0 ≤ℤ (r +ℤ pos (2 * most_apps * greatest_number)) → to_z w128 (of_z w128 r) ≡ r
rise_is r high low = omega (arith, ints)

test_is : (a b : ℤ) → IsTrue (le_z a b) ↔ (a ≤ℤ b)
test_is a b = (λ h. grind (arith, ints), λ h. grind (arith, ints))

passes_is : (n : ℕ) (w : Wait) (ps : List ℤ) (r : ℤ) (u v : ℕ) → u ≡ w.waiter → v ≡ w.awaited → length ps ≡ n → IsWithin n w → All IsPotential ps →
    r ≡ rise_of n w → r ≤ℤ pos greatest_rise → pos 0 ≤ℤ (r +ℤ pos (2 * most_apps * greatest_number)) →
    in_code r (get_or ps u (pos 0)) (get_or ps v (pos 0)) ↔ Passes n ps w
passes_is n w ps r u v u_is v_is counted within potentials value high low =
    let x = get_or ps w.waiter (pos 0) in
    let y = get_or ps w.awaited (pos 0) in
    let hx : IsPotential x = All-get_or IsPotential ps w.waiter (pos 0) (omega (arith, within.waiter, counted)) potentials in
    let hy : IsPotential y = All-get_or IsPotential ps w.awaited (pos 0) (omega (arith, within.awaited, counted)) potentials in
    let e = rise_is r high low in
    let f = higher_is x y hx hy in
    rw (u_is, v_is, e, f) (λ h. omega (arith, ints, value, (test_is r (x -ℤ y)).0 h), λ h. (test_is r (x -ℤ y)).1 (omega (arith, ints, value, h)))

pub returns : goal.returns
returns c =
    passes_is _ c.args.wait.now _ _ _ _ (ap (λ (w : Wait). w.waiter) c.wait.view_is) (ap (λ (w : Wait). w.awaited) c.wait.view_is) refl c.requires.within c.requires.potentials
    c.rise.ensures.value c.rise.ensures.high c.rise.ensures.low
