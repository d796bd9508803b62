-- Sums over waits, wait by wait, and the test of the two sums of a cycle.
use Rattle.std.proofs.Common.{◌≡◌, ◌↔◌, ℕ, ◌+◌, ◌*◌, ◌<◌, List, [], ◌∷◌, length, take, get_or, ℤ, pos, ◌+ℤ◌, ◌≤ℤ◌, arith, to_z, of_z, IsTrue, FitsSigned}
use lib.Signed.{le_z}
use mir.Syntax.{w128}
use Rattle.std.proofs.lemmas.Int.{ints}
use Rattle.std.proofs.lemmas.List.{take_more}
use Rattle.scene_model.specs.Cover.{AreAmong, IsCycle, IsUncovered, allowances, burdens, greatest_number, most_waits, sum_of}
use Rattle.scene_model.specs.declared.wait.Wait.{Wait}
use Rattle.scene_model.proofs.Walks.{sum_of-append}

-- one wait more
pub sum_of-more : (f : Wait → ℤ) (ws : List Wait) (i : ℕ) (w : Wait) → i < length ws → w ≡ get_or ws i w → sum_of f (take (i + 1) ws) ≡ sum_of f (take i ws) +ℤ f w
sum_of-more f ws i w lt is = rw (take_more ws i w lt, ← is) (omega (arith, ints, sum_of-append f (take i ws) (w ∷ [])))

-- the sum that the code makes, at numbers well within their type
pub sum_fits : (s x : ℤ) (i : ℕ) → i < most_waits → pos 0 ≤ℤ (s +ℤ pos (i * greatest_number)) → s ≤ℤ pos (i * greatest_number) → pos 0 ≤ℤ (x +ℤ pos greatest_number) → x ≤ℤ pos greatest_number →
    to_z w128 (of_z w128 (s +ℤ to_z w128 (of_z w128 x))) ≡ s +ℤ x
sum_fits s x i short low high least most = omega (arith, ints)

le_from_test : (x y : ℤ) → IsTrue (le_z x y) → x ≤ℤ y
le_from_test x y passed = grind (arith, ints)

test_from_le : (x y : ℤ) → x ≤ℤ y → IsTrue (le_z x y)
test_from_le x y le = grind (arith, ints)

-- the test of the two sums of a cycle says whether it is not covered
pub judged : (all cycle : List Wait) (a b : ℤ) → FitsSigned w128 a → FitsSigned w128 b → a ≡ allowances cycle → b ≡ burdens cycle → IsCycle cycle → AreAmong all cycle →
    IsTrue (le_z (to_z w128 (of_z w128 a)) (to_z w128 (of_z w128 b))) ↔ IsUncovered all cycle
judged all cycle a b a_fits b_fits a_is b_is closed among = (
  (λ passed. record {
    cycle_of = record { closed = closed; among = among };
    uncovered = let le = le_from_test (to_z w128 (of_z w128 a)) (to_z w128 (of_z w128 b)) passed in omega (arith, ints, le, a_fits, b_fits, a_is, b_is);
  }),
  (λ found. test_from_le (to_z w128 (of_z w128 a)) (to_z w128 (of_z w128 b)) (omega (arith, ints, found.uncovered, a_fits, b_fits, a_is, b_is))),
)
