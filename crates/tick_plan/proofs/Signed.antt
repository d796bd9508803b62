-- Signed numbers, as the code tests and adds them.
use Rattle.std.proofs.Common.{◌≡◌, ℕ, ◌*◌, ◌<◌, ◌≤◌, true, false, ℤ, pos, ◌+ℤ◌, ◌≤ℤ◌, ◌<ℤ◌, FitsSigned, to_z, of_z, arith}
use Rattle.std.proofs.lemmas.Int.{ints}
use lib.IntN.{nat_abs}
use lib.Signed.{le_z}
use mir.Syntax.{w128}
use Rattle.scene_model.specs.Cover.{greatest_number}
use Rattle.scene_model.specs.Limits.{most_apps}
use Rattle.tick_plan.specs.Bounds.{greatest_rise, greatest_height}

pub test_true : (a b : ℤ) → le_z a b ≡ true → a ≤ℤ b
test_true a b h = grind (arith, ints)

pub test_false : (a b : ℤ) → le_z a b ≡ false → b <ℤ a
test_false a b h = grind (arith, ints)

-- a number above one that is not negative
pub record IsAbove (z : ℤ) (y : ℕ) : Type 0 where
  pub is : pos (nat_abs z) ≡ z
  pub above : y < nat_abs z

pub is_above : (z : ℤ) (y : ℕ) → pos y <ℤ z → IsAbove z y
is_above z y h = record { is = omega (arith, ints); above = omega (arith, ints) }

-- a rise and a height are well within their type, and so is their sum
pub sum_fits : (r : ℤ) (a : ℕ) → r ≤ℤ pos greatest_rise → pos 0 ≤ℤ (r +ℤ pos (2 * most_apps * greatest_number)) → a ≤ greatest_height →
    FitsSigned w128 (to_z w128 (of_z w128 r) +ℤ to_z w128 a)
sum_fits r a high low small = omega (arith, ints)
