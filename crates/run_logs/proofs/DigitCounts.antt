-- How many decimal digits a number has, by its bits.
use Rattle.std.proofs.Common.{◌≡◌, ℕ, zero, suc, ◌+◌, ◌*◌, ◌/◌, ◌^◌, ◌<◌, ◌≤◌, Bool, true, ◌&&◌, length, length-append, get_or, max, add-one, refl, sym, ap, subst, ◌∙◌, inl, inr, arith, pow-suc}
use Rattle.std.specs.Prelude.{nat_eq, nat_le}
use Rattle.std.specs.Fmt.{decimal}
use Rattle.std.proofs.lemmas.Bool.{and_parts, cases_order, eqb-true, leb-true}
use Rattle.std.proofs.lemmas.Fmt.{decimal_step}
use Rattle.itoa.proofs.Decimal.{length_one}
use Rattle.music_base.proofs.Scaling.{ten_pos}
use Rattle.run_logs.specs.declared.sizes.TheConstants.{POWERS}

-- from one power of ten to the next
length_between : (d n : ℕ) → 10 ^ d ≤ n → n < 10 ^ (d + 1) → n < 2 ^ 64 → length (decimal n) ≡ d + 1
length_between zero n ge lt fits = length_one n lt
length_between (suc d) n ge lt fits =
    let low : 10 ^ d * 10 ≤ n = subst (λ p. p ≤ n) (pow-suc 10 d) ge in
    let high : n < 10 ^ suc d * 10 = subst (λ p. n < p) (ap (λ e. 10 ^ e) (add-one (suc d)) ∙ pow-suc 10 (suc d)) lt in
    let one : 0 < 10 ^ d = ten_pos d in
    let rest : length (decimal (n / 10)) ≡ d + 1 = length_between d (n / 10) (omega arith) (subst (λ e. n / 10 < 10 ^ e) (sym (add-one d)) (omega arith)) (omega arith) in
    ap length (decimal_step n (omega arith) fits) ∙ length-append _ _ ∙ ap (λ k. k + 1) rest ∙ ap (λ k. k + 1) (add-one d)

-- ---- what holds of each number of bits

abbrev all_below : (ℕ → Bool) → ℕ → Bool
all_below p zero = true
all_below p (suc n) = p n && all_below p n

at_below : (p : ℕ → Bool) (n k : ℕ) → all_below p n ≡ true → k < n → p k ≡ true
at_below p zero k all lt = absurd (omega arith)
at_below p (suc n) k all lt = elim (cases_order k n) [
  | inl e ↦ subst (λ i. p i ≡ true) (sym e) (and_parts (p n) (all_below p n) all).0
  | inr other ↦ elim other [
    | inl below ↦ at_below p n k (and_parts (p n) (all_below p n) all).1 below
    | inr above ↦ absurd (omega arith)
  ]
]

abbrev pub least_size : ℕ → ℕ
least_size power = (power + 1) * 1233 / 4096

pub powers_at : (i : ℕ) → i < 20 → get_or POWERS i 0 ≡ 10 ^ i
powers_at i lt = eqb-true (get_or POWERS i 0) (10 ^ i) (at_below (λ i. nat_eq (get_or POWERS i 0) (10 ^ i)) 20 i refl lt)

-- a number of the bits of this power of two has no fewer digits than this, and at most one more
not_fewer : (power : ℕ) → power < 64 → 10 ^ least_size power ≤ 10 * 2 ^ power
not_fewer power lt = leb-true (10 ^ least_size power) (10 * 2 ^ power) (at_below (λ i. nat_le (10 ^ least_size i) (10 * 2 ^ i)) 64 power refl lt)

one_more : (power : ℕ) → power < 64 → 2 * 2 ^ power ≤ 10 ^ (least_size power + 1)
one_more power lt = leb-true (2 * 2 ^ power) (10 ^ (least_size power + 1)) (at_below (λ i. nat_le (2 * 2 ^ i) (10 ^ (least_size i + 1))) 64 power refl lt)

-- the two cases
length_below : (size power n : ℕ) → 10 ^ size ≤ 10 * 2 ^ power → 0 < n → n < 2 ^ 64 → 2 ^ power ≤ n → n < 10 ^ size → length (decimal n) ≡ size
length_below zero power n few some fits ge below = absurd (omega arith)
length_below (suc d) power n few some fits ge below =
    let low : 10 ^ d * 10 ≤ 10 * 2 ^ power = subst (λ p. p ≤ 10 * 2 ^ power) (pow-suc 10 d) few in
    let high : n < 10 ^ (d + 1) = subst (λ e. n < 10 ^ e) (sym (add-one d)) below in
    length_between d n (omega arith) high fits ∙ add-one d

pub fewer_digits : (power n : ℕ) → power < 64 → 0 < n → n < 2 ^ 64 → 2 ^ power ≤ n → n < 10 ^ least_size power → length (decimal n) ≡ least_size power
fewer_digits power n lt some fits ge below = length_below (least_size power) power n (not_fewer power lt) some fits ge below

pub more_digits : (power n : ℕ) → power < 64 → n < 2 ^ 64 → n < 2 * 2 ^ power → 10 ^ least_size power ≤ n → length (decimal n) ≡ least_size power + 1
more_digits power n lt fits below ge =
    let most = one_more power lt in
    length_between (least_size power) n ge (omega arith) fits

-- 0 has one digit, as 1 has
pub as_one : (n : ℕ) → length (decimal (max n 1)) ≡ length (decimal n)
as_one zero = length_one (max 0 1) (omega arith) ∙ sym (length_one 0 (omega arith))
as_one (suc n) = ap (λ k. length (decimal k)) (omega arith)
