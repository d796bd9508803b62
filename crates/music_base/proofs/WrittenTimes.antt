-- The canonical spelling of a time is read as that time.
use Rattle.std.proofs.Common.{◌≡◌, ℕ, ◌+◌, ◌-◌, ◌*◌, ◌/◌, ◌%◌, ◌^◌, ◌<◌, ◌≤◌, true, List, [], ◌∷◌, ◌++◌, length, Some, None, refl, sym, ap, ◌∙◌, inl, inr, arith, append-nil}
use Rattle.std.specs.Prelude.{Result, Ok, Err, IfOk}
use Rattle.std.specs.Char.{is_ascii_digit}
use Rattle.std.specs.Fmt.{decimal}
use Rattle.std.specs.List.{list_all}
use Rattle.std.specs.Str.Parse.{digits_value_after, digits_value}
use Rattle.std.proofs.Math.Nat.{mul_assoc}
use Rattle.std.proofs.lemmas.Nat.{div-add-mod'}
use Rattle.std.proofs.lemmas.Bool.{eq-eqb, ne_eqb, cases_eq}
use Rattle.std.proofs.lemmas.Fmt.{decimal_is_IsNumeral, length-decimal-le}
use Rattle.std.proofs.lemmas.List.{length-append}
use Rattle.music_base.specs.Times.{time_value, greatest_time, canonical_time, nanos_text, lowest_digits}
use Rattle.music_base.specs.TimeTexts.{SpellsTime}
use Rattle.music_base.proofs.DigitValues.{digits_value_after-append, are_ascii_digits}
use Rattle.music_base.proofs.Fraction.{trimmed, lowest_are_digits, length-lowest_digits, digits_value_after-lowest_digits}
use Rattle.music_base.proofs.Scaling.{split_ten}
use Rattle.music_base.proofs.TimeLaws.{valued}

-- what is known of the digits of whole seconds
record IsWritten (s : ℕ) : Type 0 where
  digits : list_all is_ascii_digit (decimal s) ≡ true
  some : 0 < length (decimal s)
  short : length (decimal s) ≤ 7
  value : digits_value 10 (decimal s) ≡ s

written : (s : ℕ) → s < 10 ^ 7 → IsWritten s
written s few =
    let numeral = decimal_is_IsNumeral s (omega (arith, few)) in
    record {
      digits = are_ascii_digits (decimal s) numeral.0.1;
      some = numeral.0.0;
      short = length-decimal-le 7 s (omega arith) few (omega (arith, few));
      value = numeral.1;
    }

-- whole seconds alone
seconds_spell : (s n : ℕ) → s < 10 ^ 7 → s * 10 ^ 9 ≡ n → SpellsTime (decimal s ++ []) n
seconds_spell s n few is =
    let w = written s few in (
      record { whole = decimal s; fraction = None; exponent = None },
      record {
        text = refl;
        short = rw (append-nil (decimal s)) (omega (arith, w.short));
        whole = w.digits;
        fraction = refl;
        some = omega (arith, w.some);
        exponent = tt;
      },
      rw (append-nil (decimal s), w.value) (omega (arith, is)),
    )

-- seconds and j digits behind the point
fraction_spells : (s n r j t : ℕ) → s < 10 ^ 7 → s * 10 ^ 9 + r ≡ n → j ≤ 9 → t * 10 ^ (9 - j) ≡ r → t < 10 ^ j → SpellsTime (decimal s ++ (46 ∷ lowest_digits j t)) n
fraction_spells s n r j t few is within scaled below =
    let w = written s few in
    let f : List ℕ = lowest_digits j t in
    let len = length-lowest_digits j t in
    let number : digits_value 10 (decimal s ++ f) ≡ s * 10 ^ j + t =
    digits_value_after-append 10 0 (decimal s) f ∙ ap (λ (x : ℕ). digits_value_after 10 x f) w.value ∙ digits_value_after-lowest_digits j s t below in
    let turned : t * 10 ^ 9 ≡ r * 10 ^ j =
    ap (λ (x : ℕ). t * x) (split_ten j 9 within) ∙ sym (mul_assoc t (10 ^ (9 - j)) (10 ^ j)) ∙ ap (λ (x : ℕ). x * 10 ^ j) scaled in
    let value : n * 10 ^ length f ≡ digits_value 10 (decimal s ++ f) * 10 ^ 9 =
    rw (len, number) (omega (arith, turned, ap (λ (x : ℕ). x * 10 ^ j) is)) in
    let places : length f + 0 ≡ length f = omega arith in (
      record { whole = decimal s; fraction = Some f; exponent = None },
      record {
        text = ap (λ (l : List ℕ). decimal s ++ l) (sym (append-nil (46 ∷ f)));
        short = omega (arith, w.short, len, within, length-append (decimal s) (46 ∷ f));
        whole = w.digits;
        fraction = lowest_are_digits j t;
        some = omega (arith, w.some);
        exponent = tt;
      },
      rw places value,
    )

pub canonical_time_spells : (n : ℕ) → n ≤ greatest_time → SpellsTime (canonical_time n) n
unfolding canonical_time
canonical_time_spells n le =
    let s : ℕ = n / 10 ^ 9 in
    let r : ℕ = n % 10 ^ 9 in
    let sum : s * 10 ^ 9 + r ≡ n = div-add-mod' n (10 ^ 9) in
    let few : s < 10 ^ 7 = omega (arith, le) in
    elim (cases_eq r 0) [
      | inl none ↦
          let text : nanos_text r ≡ [] = rw (eq-eqb r 0 none) refl in
          rw text (seconds_spell s n few (omega (arith, sum, none)))
      | inr some ↦
          let found = trimmed 9 r (omega (arith, some)) (omega arith) in
          let h = found.2 in
          let text : nanos_text r ≡ 46 ∷ lowest_digits found.0 found.1 = rw (ne_eqb r 0 some) (ap (λ (l : List ℕ). 46 ∷ l) h.is) in
          rw text (fraction_spells s n r found.0 found.1 few sum h.within h.scaled h.below)
    ]

pub written_again : {E : Type 0} (n : ℕ) (r : Result (List ℕ) E) → IfOk r (λ word. word ≡ canonical_time n) → IfOk r (λ word. n ≤ greatest_time → time_value word ≡ Ok n)
written_again n (Ok word) e = λ le. valued word n (rw e (canonical_time_spells n le), le)
written_again n (Err x) e = tt
