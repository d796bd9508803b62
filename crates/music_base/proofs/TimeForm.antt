-- What the form of a time text gives.
use Rattle.std.proofs.Common.{◌≡◌, ℕ, ◌+◌, ◌-◌, ◌^◌, ◌<◌, ◌≤◌, true, ltb, leb, ◌&&◌, List, ◌++◌, length, refl, inl, inr, arith}
use Rattle.std.specs.Prelude.{min}
use Rattle.std.specs.Char.{is_ascii_digit}
use Rattle.std.specs.List.{list_all, list_any, position_or_len}
use Rattle.std.specs.Str.Parse.{digits_value, digits_value_after, without_leading_sign}
use Rattle.std.proofs.lemmas.Bool.{and_parts, leb-true, ltb-true, cases_Bool}
use Rattle.std.proofs.lemmas.List.Folds.{list_all-append}
use Rattle.std.proofs.lemmas.List.{length-append, length-take, length-drop}
use Rattle.music_base.specs.Counts.{is_count}
use Rattle.music_base.specs.Times.{is_time_text, is_exponent_mark, is_point, is_exponent, has_good_exponent, mantissa, exponent, whole, fraction, digits_of, exponent_size}
use Rattle.music_base.proofs.DigitValues.{digits_value_after-append, digits_value-below}
use Rattle.music_base.proofs.FirstPlaces.{after_first-none}

-- the tests that a time text passes
pub record HasForm (text : List ℕ) : Type 0 where
  pub short : length text ≤ 30
  pub whole_digits : list_all is_ascii_digit (whole text) ≡ true
  pub fraction_digits : list_all is_ascii_digit (fraction text) ≡ true
  pub some : 0 + 1 ≤ length (whole text) + length (fraction text)
  pub good_exponent : has_good_exponent text ≡ true

pub has_form : (text : List ℕ) → is_time_text text ≡ true → HasForm text
has_form text form =
    let a = and_parts (leb (length text) 30 && list_all is_ascii_digit (whole text) && list_all is_ascii_digit (fraction text) && ltb 0 (length (whole text) + length (fraction text))) _ form in
    let b = and_parts (leb (length text) 30 && list_all is_ascii_digit (whole text) && list_all is_ascii_digit (fraction text)) _ a.0 in
    let d = and_parts (leb (length text) 30 && list_all is_ascii_digit (whole text)) _ b.0 in
    let e = and_parts (leb (length text) 30) _ d.0 in
    let some = ltb-true 0 (length (whole text) + length (fraction text)) b.1 in
    record {
      short = leb-true (length text) 30 e.0;
      whole_digits = e.1;
      fraction_digits = d.1;
      some = omega (arith, some);
      good_exponent = a.1;
    }

-- the tests that an exponent passes
pub record HasExponentForm (bytes : List ℕ) : Type 0 where
  pub digits : list_all is_ascii_digit (without_leading_sign bytes) ≡ true
  pub some : 1 ≤ length (without_leading_sign bytes)
  pub few : length (without_leading_sign bytes) ≤ 3

pub has_exponent_form : (bytes : List ℕ) → is_exponent bytes ≡ true → HasExponentForm bytes
has_exponent_form bytes form =
    let digits = without_leading_sign bytes in
    let a = and_parts (is_count digits) (leb (length digits) 3) form in
    let b = and_parts (leb 1 (length digits)) (list_all is_ascii_digit digits) a.0 in
    record { digits = b.1; some = leb-true 1 (length digits) b.0; few = leb-true (length digits) 3 a.1 }

-- where there is no mark, the exponent has no digits
pub exponent_digits : (text : List ℕ) → is_time_text text ≡ true
    → (list_all is_ascii_digit (without_leading_sign (exponent text)) ≡ true) × (length (without_leading_sign (exponent text)) ≤ 3)
exponent_digits text form =
    let good = (has_form text form).good_exponent in
    elim (cases_Bool (list_any is_exponent_mark text)) [
      | inl some ↦
          let h = has_exponent_form (exponent text) (rw some at good) in
          (h.digits, h.few)
      | inr none ↦ rw (after_first-none is_exponent_mark text none) (refl, omega arith)
    ]

pub few_digits : (text : List ℕ) → is_time_text text ≡ true → length (whole text) + length (fraction text) ≤ 30
few_digits text form =
    let short = (has_form text form).short in
    let mark = position_or_len is_exponent_mark text in
    let point = position_or_len is_point (mantissa text) in
    omega (arith, short, length-take mark text, length-take point (mantissa text), length-drop (point + 1) (mantissa text))

-- ---- the numbers of its digits

pub digits_of-below : (text : List ℕ) → is_time_text text ≡ true → digits_of text < 10 ^ 30
digits_of-below text form =
    let h = has_form text form in
    let both : list_all is_ascii_digit (whole text ++ fraction text) ≡ true = rw (list_all-append is_ascii_digit (whole text) (fraction text), h.whole_digits) h.fraction_digits in
    digits_value-below 30 (whole text ++ fraction text) both (omega (arith, few_digits text form, length-append (whole text) (fraction text)))

-- they are read as they are
pub digits_read : (text : List ℕ) → is_time_text text ≡ true → min (digits_value_after 10 (min (digits_value 10 (whole text)) (2 ^ 128 - 1)) (fraction text)) (2 ^ 128 - 1) ≡ digits_of text
digits_read text form =
    let first : digits_value 10 (whole text) < 10 ^ 30 = digits_value-below 30 (whole text) (has_form text form).whole_digits (omega (arith, few_digits text form)) in
    let is : min (digits_value 10 (whole text)) (2 ^ 128 - 1) ≡ digits_value 10 (whole text) = omega (arith, first) in
    rw (is, ← digits_value_after-append 10 0 (whole text) (fraction text)) (omega (arith, digits_of-below text form))

pub exponent_size-below : (text : List ℕ) → is_time_text text ≡ true → exponent_size text < 10 ^ 3
exponent_size-below text form =
    let d = exponent_digits text form in
    digits_value-below 3 (without_leading_sign (exponent text)) d.0 d.1

pub size_read : (text : List ℕ) → is_time_text text ≡ true → min (exponent_size text) (2 ^ 128 - 1) ≡ exponent_size text
size_read text form = omega (arith, exponent_size-below text form)
