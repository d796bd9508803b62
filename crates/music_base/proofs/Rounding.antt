-- Rounding down to a multiple.
use Rattle.std.proofs.Common.{ℕ, ◌<◌, arith, ℤ, pos, negsuc, ◌+ℤ◌}
use Rattle.std.specs.Prelude.{◌<ℤ◌, ◌≤ℤ◌}
use Rattle.std.proofs.lemmas.Int.{ints}
use Rattle.music_base.specs.Numbers.{floor_to}

pub floor_to-le : (g : ℕ) (x : ℤ) → 0 < g → floor_to g x ≤ℤ x
unfolding floor_to
floor_to-le g (pos a) some = omega (arith, ints)
floor_to-le g (negsuc a) some = omega (arith, ints)

pub floor_to-near : (g : ℕ) (x : ℤ) → 0 < g → x <ℤ (floor_to g x +ℤ pos g)
unfolding floor_to
floor_to-near g (pos a) some = omega (arith, ints)
floor_to-near g (negsuc a) some = omega (arith, ints)
