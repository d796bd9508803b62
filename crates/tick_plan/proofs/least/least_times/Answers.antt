use Rattle.std.proofs.Common.{◌≡◌, ℕ, ◌+◌, ◌-◌, ◌*◌, ◌^◌, ◌/◌, ◌<◌, ◌≤◌, false, ℤ, FitsSigned, to_z, of_z, arith}
use Rattle.std.proofs.lemmas.Int.{ints, to_z-of_z}
use Rattle.std.proofs.Math.Nat.{div-mul-le_self, mul-le-mul_right}
use lib.IntN.{nat_abs}
use lib.Signed.{le_z}
use mir.Syntax.{w128}
use Rattle.tick_plan.proofs.Signed.{IsAbove, is_above, test_false}
use Rattle.tick_plan.proofs.least.least_times.Goals as goal

-- so many units reach n, and no fewer do
reached : (n unit : ℕ) → 1 ≤ unit → n ≤ ((n - 1) / unit + 1) * unit
reached n unit some = omega arith

not_reached : (n unit k : ℕ) → 1 ≤ n → k < (n - 1) / unit + 1 → k * unit < n
not_reached n unit k some fewer =
    let least : k ≤ (n - 1) / unit = omega arith in
    omega (arith, mul-le-mul_right unit least, div-mul-le_self (n - 1) unit)

needed : (need : ℤ) (unit : ℕ) → FitsSigned w128 need → unit < 2 ^ 64 → le_z (to_z w128 (of_z w128 need)) (to_z w128 unit) ≡ false → IsAbove (to_z w128 (of_z w128 need)) unit
needed need unit fits small test = is_above _ unit (omega (arith, ints, test_false (to_z w128 (of_z w128 need)) (to_z w128 unit) test))

pub returns-clause-enough : goal.returns-clause-enough
returns-clause-enough c =
    let above = needed c.args.need c.args.unit c.ranges.need c.ranges.unit.fits c.if-need-unit.false in
    omega (arith, ints, above.is, to_z-of_z w128 c.args.need c.ranges.need, reached (nat_abs (to_z w128 (of_z w128 c.args.need))) c.args.unit c.requires.unit)

pub returns-clause-least : goal.returns-clause-least
returns-clause-least c = λ k some fewer.
    let above = needed c.args.need c.args.unit c.ranges.need c.ranges.unit.fits c.if-need-unit.false in
    omega (arith, ints, above.is, to_z-of_z w128 c.args.need c.ranges.need, not_reached (nat_abs (to_z w128 (of_z w128 c.args.need))) c.args.unit k (omega (arith, above.above)) fewer)
