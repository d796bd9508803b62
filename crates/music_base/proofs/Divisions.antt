-- Quotients that are rounded up.
use Rattle.std.proofs.Common.{◌↔◌, ℕ, ◌+◌, ◌*◌, ◌<◌, ◌≤◌, inl, inr, arith}
use Rattle.std.specs.Int.{div_ceil}
use Rattle.std.proofs.lemmas.Bool.{cases_lt}
use Rattle.std.proofs.lemmas.Grind.{div_ceil_times}
use Rattle.std.proofs.Math.Nat.{mul-le-mul_right}

-- the quotient counts the multiples below the dividend
pub lt-div_ceil : (i x d : ℕ) → 1 ≤ d → (i < div_ceil x d) ↔ (i * d < x)
lt-div_ceil i x d pos =
    let bounds : (x ≤ div_ceil x d * d) × (div_ceil x d * d < x + d) = div_ceil_times x d (omega arith) in (
      λ (lt : i < div_ceil x d).
          let le : i + 1 ≤ div_ceil x d = omega arith in
          omega (arith, mul-le-mul_right d le, bounds),
      λ (lt : i * d < x).
          elim (cases_lt i (div_ceil x d)) [
            | inl h ↦ h
            | inr le ↦ absurd (omega (arith, mul-le-mul_right d le, bounds, lt))
          ],
    )
