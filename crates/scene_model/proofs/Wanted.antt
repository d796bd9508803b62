-- Which blocks steps want.
use Rattle.std.proofs.Common.{◌≡◌, ◌⊎◌, inl, inr, ℕ, zero, suc, ◌<◌, ◌≤◌, Bool, true, false, refl, sym, subst, arith, ℤ, pos, ◌+ℤ◌, length}
use Rattle.std.specs.Prelude.{int_lt, ◌<ℤ◌, ◌≤ℤ◌}
use Rattle.std.proofs.lemmas.Bool.{cases_lt}
use Rattle.std.proofs.lemmas.Int.{ints}
use Rattle.std.proofs.lemmas.List.{get_or_past}
use Rattle.std.proofs.Math.Nat.{mul-le-mul_right}
use Rattle.scene_model.specs.declared.scene.Scene.{Scene}
use Rattle.scene_model.specs.Clocks.{tick, steps, run_time, allowance, wants, wanted, wanted_before, wanted_blocks}
use Rattle.scene_model.specs.Scenes.{app_at, no_app, sender, receiver}
use Rattle.scene_model.specs.WellFormed.{IsWellFormed}
use Rattle.scene_model.specs.declared.scene.AppDecl.{AppDecl}
use Rattle.scene_model.proofs.Counting.{IsDownward, below_count, passes_below, count_below-le, count_below-at_most, count_below-all}

pub lt_from_test : (x y : ℤ) → int_lt x y ≡ true → x <ℤ y
lt_from_test x y test = grind (arith, ints)

pub test_from_lt : (x y : ℤ) → x <ℤ y → int_lt x y ≡ true
test_from_lt x y lt = grind (arith, ints)

pub ge_from_test : (x y : ℤ) → int_lt x y ≡ false → y ≤ℤ x
ge_from_test x y test = grind (arith, ints)

-- a smaller left side and a greater right one
pub test_more : (a b m n : ℕ) (z : ℤ) → a ≤ b → m ≤ n → int_lt (pos b +ℤ z) (pos m) ≡ true → int_lt (pos a +ℤ z) (pos n) ≡ true
test_more a b m n z ab mn test = let lt : (pos b +ℤ z) <ℤ pos m = lt_from_test _ _ test in test_from_lt (pos a +ℤ z) (pos n) (omega (arith, ints))

-- a step that wants a block wants those before it, and later steps want it too
pub wants-down : (scene : Scene) (c j : ℕ) → IsDownward (wants scene c j)
wants-down scene c j i k le test =
    test_more (run_time scene (sender scene c) i) (run_time scene (sender scene c) k) _ _ (allowance scene c) (mul-le-mul_right (tick scene (sender scene c)) le) (omega arith) test

pub wants-later : (scene : Scene) (c i j k : ℕ) → i ≤ j → wants scene c i k ≡ true → wants scene c j k ≡ true
wants-later scene c i j k le test =
    let next : suc i ≤ suc j = omega arith in
    test_more (run_time scene (sender scene c) k) (run_time scene (sender scene c) k) _ _ (allowance scene c) (omega arith) (mul-le-mul_right (tick scene (receiver scene c)) next) test

pub wanted-le : (scene : Scene) (c i j : ℕ) → i ≤ j → wanted scene c i ≤ wanted scene c j
unfolding wanted
wanted-le scene c i j le = count_below-le (steps scene (sender scene c)) (wants scene c i) (wants scene c j) (λ k test. wants-later scene c i j k le test)

-- more steps want more blocks
pub wanted_before-le : (scene : Scene) (c i j : ℕ) → i ≤ j → wanted_before scene c i ≤ wanted_before scene c j
wanted_before-le scene c zero j le = omega arith
wanted_before-le scene c (suc i) zero le = absurd (omega arith)
wanted_before-le scene c (suc i) (suc j) le = wanted-le scene c i j (omega arith)

-- no step wants more than there are
pub wanted_before-at_most : (scene : Scene) (c j : ℕ) → wanted_before scene c j ≤ steps scene (sender scene c)
unfolding wanted
wanted_before-at_most scene c zero = omega arith
wanted_before-at_most scene c (suc j) = count_below-at_most (steps scene (sender scene c)) (wants scene c j)

-- nor more than all steps together
pub wanted-at_most : (scene : Scene) (c j : ℕ) → j < steps scene (receiver scene c) → wanted scene c j ≤ wanted_blocks scene c
wanted-at_most scene c j lt = wanted_before-le scene c (suc j) (steps scene (receiver scene c)) lt

-- a block below the count is wanted: it begins, the allowance added, before the step ends
pub below_wanted : (scene : Scene) (c j k : ℕ) → k < wanted scene c j → (pos (run_time scene (sender scene c) k) +ℤ allowance scene c) <ℤ pos (run_time scene (receiver scene c) (suc j))
unfolding wanted
below_wanted scene c j k lt = lt_from_test _ _ (passes_below (steps scene (sender scene c)) (wants scene c j) (wants-down scene c j) k lt)

-- and another is not
pub past_wanted : (scene : Scene) (c j k : ℕ) → k < steps scene (sender scene c) → wanted scene c j ≤ k → pos (run_time scene (receiver scene c) (suc j)) ≤ℤ (pos (run_time scene (sender scene c) k) +ℤ allowance scene c)
unfolding wanted
past_wanted scene c j k small ge = go (int_lt (pos (run_time scene (sender scene c) k) +ℤ allowance scene c) (pos (run_time scene (receiver scene c) (suc j)))) refl
  where
    go : (b : Bool) → wants scene c j k ≡ b → pos (run_time scene (receiver scene c) (suc j)) ≤ℤ (pos (run_time scene (sender scene c) k) +ℤ allowance scene c)
    go true e = let lt : k < wanted scene c j = below_count (steps scene (sender scene c)) (wants scene c j) (wants-down scene c j) k small e in absurd (omega arith)
    go false e = ge_from_test _ _ e

-- a block that a step wants is below the count, and where it is one past the last, all blocks are wanted
pub wanted_below : (scene : Scene) (c j k : ℕ) → k < steps scene (sender scene c) → wants scene c j k ≡ true → k < wanted scene c j
unfolding wanted
wanted_below scene c j k small e = below_count (steps scene (sender scene c)) (wants scene c j) (wants-down scene c j) k small e

pub wanted_all : (scene : Scene) (c j k : ℕ) → steps scene (sender scene c) ≤ k → wants scene c j k ≡ true → wanted scene c j ≡ steps scene (sender scene c)
unfolding wanted
wanted_all scene c j k past e = count_below-all (steps scene (sender scene c)) (wants scene c j) (λ i l. wants-down scene c j i k (omega arith) e)

-- ---- ticks

-- each number has a tick of 1 ns or more, since what stands past the applications ticks too
pub tick_some : (scene : Scene) → IsWellFormed scene → (a : ℕ) → 1 ≤ tick scene a
unfolding tick
tick_some scene well_formed a = go (cases_lt a (length scene.apps))
  where
    go : (a < length scene.apps) ⊎ (length scene.apps ≤ a) → 1 ≤ (app_at scene a).tick
    go (inl app) = well_formed.ticks a app
    go (inr past) = subst (λ (x : AppDecl). 1 ≤ x.tick) (sym (get_or_past scene.apps a no_app past)) (omega arith)
