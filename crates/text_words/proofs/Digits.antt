-- The digits of a decimal number, and what those after the point are worth.
use Rattle.std.proofs.Common.{◌≡◌, ℕ, ◌+◌, ◌-◌, ◌*◌, ◌^◌, ◌<◌, ◌≤◌, true, leb, List, length, refl, inl, inr, arith}
use Rattle.std.specs.Char.{is_ascii_digit}
use Rattle.std.specs.List.{list_all, list_any}
use Rattle.music_base.specs.Times.{is_point}
use Rattle.music_base.proofs.FirstPlaces.{after_first-none}
use Rattle.std.specs.Str.Parse.{digits_value}
use Rattle.std.proofs.lemmas.Bool.{cases_Bool, and_parts, leb-true}
use Rattle.std.proofs.lemmas.Nat.{pow-add}
use Rattle.std.proofs.Math.Nat.{one-le-pow, mul-le-mul}
use Rattle.music_base.proofs.DigitValues.{digits_value-below}
use Rattle.music_base.specs.Counts.{is_count, is_short_count}
use Rattle.text_words.specs.Numbers.{is_decimal, has_good_fraction, whole, fraction, worth, most_fraction_digits, most_whole_digits}

below_unit : (n k : ℕ) → k ≤ 6 → n < 10 ^ k → n * 10 ^ (6 - k) < 10 ^ 6
below_unit n k le lt =
    let e : k + (6 - k) ≡ 6 = omega arith in
    let p : 10 ^ (k + (6 - k)) ≡ 10 ^ k * 10 ^ (6 - k) = pow-add 10 k (6 - k) in
    let one : 1 ≤ 10 ^ (6 - k) = one-le-pow (6 - k) 10 (omega arith) in
    let more : n + 1 ≤ 10 ^ k = omega (arith, lt) in
    let m : (n + 1) * 10 ^ (6 - k) ≤ 10 ^ k * 10 ^ (6 - k) = mul-le-mul more (omega arith) in
    let q : 10 ^ 6 ≡ 10 ^ k * 10 ^ (6 - k) = rw e at p in
    omega (arith, one, m, q)

-- what digits after a point are worth is below one
pub worth_below : (ds : List ℕ) → list_all is_ascii_digit ds ≡ true → length ds ≤ most_fraction_digits → worth ds < 10 ^ most_fraction_digits
worth_below ds digits few = below_unit (digits_value 10 ds) (length ds) few (digits_value-below (length ds) ds digits (omega arith))

-- ---- the parts of a decimal number

abbrev AreFewDigits : ℕ → List ℕ → Type 0
AreFewDigits most ds = (list_all is_ascii_digit ds ≡ true) × (length ds ≤ most)

are_few : (most : ℕ) (ds : List ℕ) → is_short_count most ds ≡ true → AreFewDigits most ds
are_few most ds is =
    let parts = and_parts (is_count ds) (leb (length ds) most) is in
    let count = and_parts (leb 1 (length ds)) (list_all is_ascii_digit ds) parts.0 in
    (count.1, leb-true (length ds) most parts.1)

pub whole_is_few : (text : List ℕ) → is_decimal text ≡ true → AreFewDigits most_whole_digits (whole text)
whole_is_few text is = are_few most_whole_digits (whole text) (and_parts _ (has_good_fraction text) is).0

pub fraction_is_few : (text : List ℕ) → is_decimal text ≡ true → AreFewDigits most_fraction_digits (fraction text)
fraction_is_few text is =
    let good = (and_parts _ (has_good_fraction text) is).1 in
    elim (cases_Bool (list_any is_point text)) [
      | inl point ↦ are_few most_fraction_digits (fraction text) (rw point at good)
      | inr none ↦ rw (after_first-none is_point text none) (refl, omega arith)
    ]
