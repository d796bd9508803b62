-- Where the parts of a split begin.
use Rattle.std.proofs.Common.{◌≡◌, ℕ, ◌*◌, ◌/◌, ◌<◌, ◌≤◌, arith}
use Rattle.std.proofs.Math.Nat.{div-le_self, div-mul-le_self, mul-div_cancel_left, mul-le-mul}
use Rattle.std.proofs.lemmas.Nat.{le-div}

-- a later rank begins no earlier
pub split_at_rises : (size ranks r s : ℕ) → 0 < ranks → r ≤ s → r * size / ranks ≤ s * size / ranks
split_at_rises size ranks r s some le =
    let m : r * size ≤ s * size = mul-le-mul le (omega arith) in
    le-div (r * size / ranks) (s * size) ranks some (omega (arith, div-mul-le_self (r * size) ranks, m))

pub split_at_first : (size ranks : ℕ) → 0 * size / ranks ≡ 0
split_at_first size ranks = omega (arith, div-le_self (0 * size) ranks)

-- the last rank ends where the span ends
pub split_at_last : (size ranks : ℕ) → 0 < ranks → ranks * size / ranks ≡ size
split_at_last size ranks some = mul-div_cancel_left size some

pub split_at_ends : (size ranks r : ℕ) → 0 < ranks → r ≤ ranks → r * size / ranks ≤ size
split_at_ends size ranks r some le = omega (arith, split_at_rises size ranks r ranks some le, split_at_last size ranks some)
