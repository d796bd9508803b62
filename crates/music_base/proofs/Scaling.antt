-- Numbers times powers of ten.
use Rattle.std.proofs.Common.{◌≡◌, ◌≢◌, ◌⊎◌, ℕ, zero, suc, ◌+◌, ◌-◌, ◌*◌, ◌/◌, ◌%◌, ◌^◌, ◌<◌, ◌≤◌, refl, sym, ap, ◌∙◌, inl, inr, arith, lit<}
use Rattle.std.specs.Prelude.{Ok, Err}
use Rattle.std.proofs.Math.Nat.{mul-div_cancel, mul-mod_left, one-le-pow, pow-le-pow_right, mul-le-mul, mul_assoc, div-add-mod', eq_of_mul-eq-mul_right}
use Rattle.std.proofs.lemmas.Nat.{pow-add}
use Rattle.std.proofs.lemmas.Bool.{cases_eq, lt-leb, ne_eqb}
use Rattle.music_base.specs.declared.times.TimeFault.TheVariants.{NotWhole, Range}
use Rattle.music_base.specs.Times.{scaled, in_range, greatest_time}

pub ten_pos : (k : ℕ) → 0 < 10 ^ k
ten_pos k = omega (arith, one-le-pow k 10 (lit< tt))

ten_mono : (i j : ℕ) → i ≤ j → 10 ^ i ≤ 10 ^ j
ten_mono i j le = pow-le-pow_right (lit< tt) le

pub ten_fits : (k : ℕ) → k < 30 → 10 ^ k < 2 ^ 128
ten_fits k lt = let h : 10 ^ k ≤ 10 ^ 29 = ten_mono k 29 (omega arith) in omega (arith, h)

-- one factor of a product is the other's quotient
pub cancel_ten : (a b k : ℕ) → a * 10 ^ k ≡ b * 10 ^ k → a ≡ b
cancel_ten a b k e = eq_of_mul-eq-mul_right (10 ^ k) (one-le-pow k 10 (lit< tt)) a b e

pub split_ten : (i j : ℕ) → i ≤ j → 10 ^ j ≡ 10 ^ (j - i) * 10 ^ i
split_ten i j le = let e : j ≡ (j - i) + i = omega arith in ap (λ (x : ℕ). 10 ^ x) e ∙ pow-add 10 (j - i) i

-- ---- the two cases of scaled

-- n is exactly the value
pub scaled-whole : (d up down n : ℕ) → n * 10 ^ down ≡ d * 10 ^ up → scaled d up down ≡ in_range n
unfolding scaled
scaled-whole d up down n e =
    let none : (d * 10 ^ up) % 10 ^ down ≡ 0 = rw (← e) (mul-mod_left n (10 ^ down)) in
    let is : (d * 10 ^ up) / 10 ^ down ≡ n = rw (← e) (mul-div_cancel n (ten_pos down)) in
    rw (none, is) refl

-- what remains
pub whole_or_not : (d up down : ℕ) → ((n : ℕ) × (n * 10 ^ down ≡ d * 10 ^ up)) ⊎ ((d * 10 ^ up) % 10 ^ down ≢ 0)
whole_or_not d up down =
    let top = d * 10 ^ up in
    elim (cases_eq (top % 10 ^ down) 0) [
      | inl none ↦ inl (top / 10 ^ down, omega (arith, div-add-mod' top (10 ^ down), none))
      | inr some ↦ inr some
    ]

pub scaled-rest : (d up down : ℕ) → (d * 10 ^ up) % 10 ^ down ≢ 0 → scaled d up down ≡ Err NotWhole
unfolding scaled
scaled-rest d up down some = rw (ne_eqb _ 0 some) refl

-- no n is the value
pub rest_not_whole : (d up down n : ℕ) → (d * 10 ^ up) % 10 ^ down ≢ 0 → n * 10 ^ down ≡ d * 10 ^ up → ⊥
rest_not_whole d up down n some e = some (rw (← e) (mul-mod_left n (10 ^ down)))

pub scaled-none : (d up down : ℕ) → ((n : ℕ) → n * 10 ^ down ≡ d * 10 ^ up → ⊥) → scaled d up down ≡ Err NotWhole
scaled-none d up down none = elim (whole_or_not d up down) [
  | inl some ↦ absurd (none some.0 some.1)
  | inr rest ↦ scaled-rest d up down rest
]

pub in_range-beyond : (n : ℕ) → greatest_time < n → in_range n ≡ Err Range
in_range-beyond n lt = rw (lt-leb n greatest_time lt) refl

-- ---- what the code finds before it multiplies or divides

-- more than 15 tens are too many for a number that is not 0
pub raised_far : (d k : ℕ) → 0 < d → 15 < k → greatest_time < d * 10 ^ k
raised_far d k pos far =
    let h : 10 ^ 16 ≤ 10 ^ k = ten_mono 16 k (omega arith) in
    let m : 1 * 10 ^ k ≤ d * 10 ^ k = mul-le-mul pos (omega arith) in
    omega (arith, h, m)

pub raised_above : (d k : ℕ) → greatest_time < d → greatest_time < d * 10 ^ k
raised_above d k above =
    let m : d * 1 ≤ d * 10 ^ k = mul-le-mul (omega arith) (ten_pos k) in
    omega (arith, m)

-- a number below 10 ^ 30 that is not 0 is no multiple of 10 ^ 30
pub lowered_far : (d k n : ℕ) → 0 < d → d < 10 ^ 30 → 30 ≤ k → n * 10 ^ k ≡ d * 10 ^ 0 → ⊥
lowered_far d k zero pos few far e = absurd (omega (arith, e))
lowered_far d k (suc n) pos few far e =
    let h : 10 ^ 30 ≤ 10 ^ k = ten_mono 30 k far in
    let m : 1 * 10 ^ k ≤ suc n * 10 ^ k = mul-le-mul (omega arith) (omega arith) in
    omega (arith, h, m, e)

pub scaled-far : (d k : ℕ) → 0 < d → d < 10 ^ 30 → 30 ≤ k → scaled d 0 k ≡ Err NotWhole
scaled-far d k pos few far = scaled-none d 0 k (λ n. lowered_far d k n pos few far)

pub scaled-divided : (d k : ℕ) → d % 10 ^ k ≡ 0 → scaled d 0 k ≡ in_range (d / 10 ^ k)
scaled-divided d k none = scaled-whole d 0 k (d / 10 ^ k) (omega (arith, div-add-mod' d (10 ^ k), none))

pub scaled-not_divided : (d k : ℕ) → d % 10 ^ k ≢ 0 → scaled d 0 k ≡ Err NotWhole
scaled-not_divided d k some = scaled-rest d 0 k (λ e. let same : d * 10 ^ 0 ≡ d = omega arith in some (rw same at e))

pub scaled-zero : (up down : ℕ) → scaled 0 up down ≡ Ok 0
scaled-zero up down = scaled-whole 0 up down 0 (omega arith)

-- ---- tens above and below cancel

pub scaled-raised : (d up down : ℕ) → down ≤ up → scaled d up down ≡ in_range (d * 10 ^ (up - down))
scaled-raised d up down le =
    scaled-whole d up down (d * 10 ^ (up - down)) (mul_assoc d (10 ^ (up - down)) (10 ^ down) ∙ ap (λ (x : ℕ). d * x) (sym (split_ten down up le)))

only_lowered : (d up down n : ℕ) → up ≤ down → n * 10 ^ down ≡ d * 10 ^ up → n * 10 ^ (down - up) ≡ d
only_lowered d up down n le e =
    cancel_ten (n * 10 ^ (down - up)) d up (mul_assoc n (10 ^ (down - up)) (10 ^ up) ∙ ap (λ (x : ℕ). n * x) (sym (split_ten up down le)) ∙ e)

is_lowered : (d up down n : ℕ) → up ≤ down → n * 10 ^ (down - up) ≡ d * 10 ^ 0 → n * 10 ^ down ≡ d * 10 ^ up
is_lowered d up down n le e =
    let is : n * 10 ^ (down - up) ≡ d = omega (arith, e) in
    rw (split_ten up down le, ← is) (sym (mul_assoc n (10 ^ (down - up)) (10 ^ up)))

pub scaled-lowered : (d up down : ℕ) → up ≤ down → scaled d up down ≡ scaled d 0 (down - up)
scaled-lowered d up down le = elim (whole_or_not d 0 (down - up)) [
  | inl some ↦ scaled-whole d up down some.0 (is_lowered d up down some.0 le some.1) ∙ sym (scaled-whole d 0 (down - up) some.0 some.1)
  | inr rest ↦
      scaled-none d up down (λ n e. rest_not_whole d 0 (down - up) n rest (let is : n * 10 ^ (down - up) ≡ d = only_lowered d up down n le e in omega (arith, is)))
      ∙ sym (scaled-rest d 0 (down - up) rest)
]
