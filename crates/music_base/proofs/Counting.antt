-- Greatest common divisors, and counts of the numbers that pass a test.
use Rattle.std.proofs.Common.{◌≡◌, ℕ, zero, suc, ◌+◌, ◌*◌, ◌/◌, ◌%◌, ◌<◌, ◌≤◌, Bool, true, false, nat_lt, refl, sym, ◌∙◌, inl, inr, arith, min}
use Rattle.std.specs.Int.{IsGcd}
use Rattle.std.proofs.lemmas.Nat.Gcd.{IsGcd-from_zero, IsGcd-from_mod, same_from_IsGcd}
use Rattle.std.proofs.lemmas.Bool.{cases_lt, lt-ltb, le-ltb, ltb-true}
use Rattle.std.proofs.lemmas.Grind.{div_ceil_times}
use Rattle.std.proofs.Math.Nat.{mul-le-mul}
use Rattle.music_base.specs.Numbers.{count_below, gcd_within, gcd}

-- ---- Euclid

gcd_within_is : (n a b : ℕ) → b < n → IsGcd a b (gcd_within n a b)
gcd_within_is zero a b lt = absurd (omega arith)
gcd_within_is (suc n) a zero lt = IsGcd-from_zero a 0 refl
gcd_within_is (suc n) a (suc b) lt = IsGcd-from_mod a (suc b) _ (gcd_within_is n (suc b) (a % suc b) (omega arith))

pub gcd-divides : (a b : ℕ) → IsGcd a b (gcd a b)
unfolding gcd
gcd-divides a b = gcd_within_is (suc b) a b (omega arith)

pub gcd_is : (a b g : ℕ) → IsGcd a b g → g ≡ gcd a b
gcd_is a b g is = same_from_IsGcd a b g (gcd a b) is (gcd-divides a b)

-- ---- the numbers that pass are those below r

pub count_below-first : (n r : ℕ) (test : ℕ → Bool) → r ≤ n → ((k : ℕ) → k < n → test k ≡ nat_lt k r) → count_below n test ≡ r
count_below-first zero r test le first = omega arith
count_below-first (suc n) r test le first = elim (cases_lt n r) [
  | inl last ↦
      let whole : count_below n test ≡ n = count_below-first n n test (omega arith) (λ k lt. first k (omega arith) ∙ lt-ltb k r (omega arith) ∙ sym (lt-ltb k n lt)) in
      rw (first n (omega arith), lt-ltb n r last) (omega (arith, whole))
  | inr beyond ↦
      let part : count_below n test ≡ r = count_below-first n r test beyond (λ k lt. first k (omega arith)) in
      rw (first n (omega arith), le-ltb n r beyond) (omega (arith, part))
]

-- a test that holds exactly below r
pub test_is : (b : Bool) (k r : ℕ) → (k < r → b ≡ true) → (b ≡ true → k < r) → b ≡ nat_lt k r
test_is true k r from to = sym (lt-ltb k r (to refl))
test_is false k r from to = elim (cases_lt k r) [
  | inl lt ↦ let e : false ≡ true = from lt in absurd cc
  | inr ge ↦ sym (le-ltb k r ge)
]

-- The multiples before the end are those whose factor is below the quotient rounded up.
pub multiple_before : (k tick end many : ℕ) → 1 ≤ tick → many ≡ end / tick + min 1 (end % tick) → nat_lt (k * tick) end ≡ nat_lt k many
multiple_before k tick end many some is =
    let pos : 0 < tick = omega arith in
    let bounds = div_ceil_times end tick pos in
    let reach : end ≤ many * tick = rw is bounds.0 in
    let near : many * tick < end + tick = rw is bounds.1 in
    test_is (nat_lt (k * tick) end) k many
    (λ lt. let m : (k + 1) * tick ≤ many * tick = mul-le-mul (omega arith) (omega arith) in lt-ltb (k * tick) end (omega (arith, m, near)))
    (λ before. elim (cases_lt k many) [
      | inl lt ↦ lt
      | inr ge ↦
          let m : many * tick ≤ k * tick = mul-le-mul ge (omega arith) in
          let lt : k * tick < end = ltb-true (k * tick) end before in
          absurd (omega (arith, m, reach, lt))
    ])
