-- A text is read as the parts that spell it, and a text with the form of a time is spelled by some.
use Rattle.std.proofs.Common.{◌≡◌, ◌⊎◌, ℕ, ◌+◌, ◌≤◌, ◌<◌, Bool, true, false, cond, eqb, List, [], ◌∷◌, ◌++◌, length, Some, None, refl, sym, ap, ◌∙◌, inl, inr, arith, append-nil, append_assoc}
use Rattle.std.specs.Prelude.{Option, IfSome}
use Rattle.std.specs.Char.{is_ascii_digit}
use Rattle.std.specs.List.{list_all, list_any, before_first, after_first}
use Rattle.std.specs.Str.Parse.{digits_value, starts_with_minus, without_leading_sign}
use Rattle.std.proofs.lemmas.Bool.{cases_Bool, and_parts, and_from, or_from, or_parts, or_cases, le-leb, lt-ltb, ne_eqb, eqb-true}
use Rattle.music_base.specs.Times.{is_time_text, is_exponent_mark, is_point, is_exponent, has_good_exponent, mantissa, exponent, whole, fraction, digits_of, raised, lowered, nano_places}
use Rattle.music_base.specs.TimeTexts.{ExponentParts, TimeParts, fraction_text, exponent_text, fraction_digits, IsExponent, AreParts, number_of, tens_up, tens_down}
use Rattle.music_base.proofs.DigitValues.{digit_is}
use Rattle.music_base.proofs.FirstPlaces.{before_first-none, after_first-none, before_first-at, after_first-at, cut_first}
use Rattle.music_base.proofs.TimeForm.{has_form, has_exponent_form}

-- ---- bytes that no digit is

pub none_in_digits : (p : ℕ → Bool) (xs : List ℕ) → ((b : ℕ) → 48 ≤ b → b < 58 → p b ≡ false) → list_all is_ascii_digit xs ≡ true → list_any p xs ≡ false
none_in_digits p [] misses digits = refl
none_in_digits p (x ∷ xs) misses digits =
    let parts = and_parts (is_ascii_digit x) (list_all is_ascii_digit xs) digits in
    let d = digit_is x parts.0 in
    or_from (p x) (list_any p xs) (misses x d.0 d.1) (none_in_digits p xs misses parts.1)

pub no_mark : (b : ℕ) → 48 ≤ b → b < 58 → is_exponent_mark b ≡ false
no_mark b low high = or_from (eqb b 101) (eqb b 69) (ne_eqb b 101 (λ e. omega arith)) (ne_eqb b 69 (λ e. omega arith))

pub no_point : (b : ℕ) → 48 ≤ b → b < 58 → is_point b ≡ false
no_point b low high = ne_eqb b 46 (λ e. omega arith)

pub list_any-append_none : (p : ℕ → Bool) (xs ys : List ℕ) → list_any p xs ≡ false → list_any p ys ≡ false → list_any p (xs ++ ys) ≡ false
list_any-append_none p [] ys none others = others
list_any-append_none p (x ∷ xs) ys none others =
    let parts = or_parts (p x) (list_any p xs) none in
    or_from (p x) (list_any p (xs ++ ys)) parts.0 (list_any-append_none p xs ys parts.1 others)

-- ---- parts that follow one another are found again

-- what stands behind the mark
abbrev exponent_body : Option ExponentParts → List ℕ
exponent_body None = []
exponent_body (Some e) = e.sign ++ e.digits

unmarked : (w : List ℕ) (f : Option (List ℕ)) → list_all is_ascii_digit w ≡ true → list_all is_ascii_digit (fraction_digits f) ≡ true → list_any is_exponent_mark (w ++ fraction_text f) ≡ false
unmarked w None a b = list_any-append_none is_exponent_mark w [] (none_in_digits is_exponent_mark w no_mark a) refl
unmarked w (Some d) a b = list_any-append_none is_exponent_mark w (46 ∷ d) (none_in_digits is_exponent_mark w no_mark a) (none_in_digits is_exponent_mark d no_mark b)

at_mark : (m : List ℕ) (e : Option ExponentParts) → list_any is_exponent_mark m ≡ false → IfSome e IsExponent
    → (before_first is_exponent_mark (m ++ exponent_text e) ≡ m) × (after_first is_exponent_mark (m ++ exponent_text e) ≡ exponent_body e)
at_mark m None none is = rw (append-nil m) (before_first-none is_exponent_mark m none, after_first-none is_exponent_mark m none)
at_mark m (Some e) none is =
    let passes : is_exponent_mark e.mark ≡ true = elim is.mark [ inl h ↦ rw h refl | inr h ↦ rw h refl ] in
    (before_first-at is_exponent_mark m e.mark (e.sign ++ e.digits) none passes, after_first-at is_exponent_mark m e.mark (e.sign ++ e.digits) none passes)

at_point : (w : List ℕ) (f : Option (List ℕ)) → list_all is_ascii_digit w ≡ true
    → (before_first is_point (w ++ fraction_text f) ≡ w) × (after_first is_point (w ++ fraction_text f) ≡ fraction_digits f)
at_point w None a =
    let clear = none_in_digits is_point w no_point a in
    rw (append-nil w) (before_first-none is_point w clear, after_first-none is_point w clear)
at_point w (Some d) a =
    let clear = none_in_digits is_point w no_point a in
    (before_first-at is_point w 46 d clear refl, after_first-at is_point w 46 d clear refl)

unsigned : (ds : List ℕ) → list_all is_ascii_digit ds ≡ true → (without_leading_sign ds ≡ ds) × (starts_with_minus ds ≡ false)
unsigned [] digits = (refl, refl)
unsigned (d ∷ ds) digits =
    let h = digit_is d (and_parts (is_ascii_digit d) (list_all is_ascii_digit ds) digits).0 in
    let minus : eqb d 45 ≡ false = ne_eqb d 45 (λ e. omega arith) in
    let plus : eqb d 43 ≡ false = ne_eqb d 43 (λ e. omega arith) in
    (rw (minus, plus) refl, minus)

signed : (e : ExponentParts) → IsExponent e → (without_leading_sign (e.sign ++ e.digits) ≡ e.digits) × (starts_with_minus (e.sign ++ e.digits) ≡ starts_with_minus e.sign)
signed e is = elim is.sign [
  | inl none ↦ rw none (unsigned e.digits is.digits)
  | inr some ↦ elim some [ inl plus ↦ rw plus (refl, refl) | inr minus ↦ rw minus (refl, refl) ]
]

body_is_exponent : (e : ExponentParts) → IsExponent e → is_exponent (e.sign ++ e.digits) ≡ true
body_is_exponent e is = rw (signed e is).0 (and_from _ _ (and_from _ _ (le-leb 1 (length e.digits) is.some) is.digits) (le-leb (length e.digits) 3 is.few))

good_exponent : (bytes : List ℕ) (e : Option ExponentParts) → IfSome e IsExponent → exponent bytes ≡ exponent_body e → (e ≡ None → list_any is_exponent_mark bytes ≡ false) → has_good_exponent bytes ≡ true
good_exponent bytes None is body none = rw (none refl) refl
good_exponent bytes (Some e) is body none = elim (cases_Bool (list_any is_exponent_mark bytes)) [
  | inl marked ↦ rw (marked, body) (body_is_exponent e is)
  | inr clear ↦ rw clear refl
]

-- the reading finds these parts and what they are worth
pub record IsReadAs (bytes : List ℕ) (parts : TimeParts) : Type 0 where
  pub form : is_time_text bytes ≡ true
  pub digits : digits_of bytes ≡ number_of parts
  pub up : raised bytes ≡ nano_places + tens_up parts.exponent
  pub down : lowered bytes ≡ length (fraction_digits parts.fraction) + tens_down parts.exponent

tens_up-read : (e : Option ExponentParts) → IfSome e IsExponent → cond (starts_with_minus (exponent_body e)) 0 (digits_value 10 (without_leading_sign (exponent_body e))) ≡ tens_up e
tens_up-read None is = refl
tens_up-read (Some e) is = rw ((signed e is).0, (signed e is).1) refl

tens_down-read : (e : Option ExponentParts) → IfSome e IsExponent → cond (starts_with_minus (exponent_body e)) (digits_value 10 (without_leading_sign (exponent_body e))) 0 ≡ tens_down e
tens_down-read None is = refl
tens_down-read (Some e) is = rw ((signed e is).0, (signed e is).1) refl

clear_of_marks : (m : List ℕ) (e : Option ExponentParts) → list_any is_exponent_mark m ≡ false → e ≡ None → list_any is_exponent_mark (m ++ exponent_text e) ≡ false
clear_of_marks m e none is = rw (is, append-nil m) none

pub read_as : (bytes : List ℕ) (parts : TimeParts) → AreParts bytes parts → IsReadAs bytes parts
read_as bytes parts are =
    let m : List ℕ = parts.whole ++ fraction_text parts.fraction in
    let e : Option ExponentParts = parts.exponent in
    let seam : bytes ≡ m ++ exponent_text e = are.text ∙ sym (append_assoc parts.whole (fraction_text parts.fraction) (exponent_text e)) in
    let none = unmarked parts.whole parts.fraction are.whole are.fraction in
    let cut = at_mark m e none are.exponent in
    let point = at_point parts.whole parts.fraction are.whole in
    let mantissa_is : mantissa bytes ≡ m = ap (λ (l : List ℕ). before_first is_exponent_mark l) seam ∙ cut.0 in
    let exponent_is : exponent bytes ≡ exponent_body e = ap (λ (l : List ℕ). after_first is_exponent_mark l) seam ∙ cut.1 in
    let whole_is : whole bytes ≡ parts.whole = ap (λ (l : List ℕ). before_first is_point l) mantissa_is ∙ point.0 in
    let fraction_is : fraction bytes ≡ fraction_digits parts.fraction = ap (λ (l : List ℕ). after_first is_point l) mantissa_is ∙ point.1 in
    let good = good_exponent bytes e are.exponent exponent_is (λ is. rw seam (clear_of_marks m e none is)) in
    record {
      form = and_from _ _ (and_from _ _ (and_from _ _ (and_from _ _ (le-leb (length bytes) 30 are.short) (rw whole_is are.whole)) (rw fraction_is are.fraction)) (lt-ltb 0 _ (rw (whole_is, fraction_is) (omega (arith, are.some))))) good;
      digits = rw (whole_is, fraction_is) refl;
      up = rw exponent_is (ap (λ (x : ℕ). 9 + x) (tens_up-read e are.exponent));
      down = rw (exponent_is, fraction_is) (ap (λ (x : ℕ). length (fraction_digits parts.fraction) + x) (tens_down-read e are.exponent));
    }

-- ---- a text with the form has parts

sign_found : (bs : List ℕ) → (sign : List ℕ) × ((sign ≡ []) ⊎ (sign ≡ 43 ∷ []) ⊎ (sign ≡ 45 ∷ [])) × (bs ≡ sign ++ without_leading_sign bs)
sign_found [] = ([], inl refl, refl)
sign_found (b ∷ bs) = elim (cases_Bool (eqb b 45)) [
  | inl minus ↦ (45 ∷ [], inr (inr refl), rw minus (ap (λ (x : ℕ). x ∷ bs) (eqb-true b 45 minus)))
  | inr other ↦ elim (cases_Bool (eqb b 43)) [
    | inl plus ↦ (43 ∷ [], inr (inl refl), rw (other, plus) (ap (λ (x : ℕ). x ∷ bs) (eqb-true b 43 plus)))
    | inr digit ↦ ([], inl refl, rw (other, digit) refl)
  ]
]

exponent_found : (bytes : List ℕ) → has_good_exponent bytes ≡ true → (e : Option ExponentParts) × (bytes ≡ mantissa bytes ++ exponent_text e) × IfSome e IsExponent
exponent_found bytes good = elim (cut_first is_exponent_mark bytes) [
  | inl uncut ↦ (None, sym uncut.0 ∙ sym (append-nil (mantissa bytes)), tt)
  | inr cut ↦
      let h = has_exponent_form (exponent bytes) (rw cut.2 at good) in
      let found = sign_found (exponent bytes) in (
        Some (record { mark = cut.0; sign = found.0; digits = without_leading_sign (exponent bytes) }),
        cut.3 ∙ ap (λ (l : List ℕ). mantissa bytes ++ (cut.0 ∷ l)) found.2,
        record {
          mark = elim (or_cases (eqb cut.0 101) (eqb cut.0 69) cut.1) [ inl e ↦ inl (eqb-true cut.0 101 e) | inr e ↦ inr (eqb-true cut.0 69 e) ];
          sign = found.1;
          digits = h.digits;
          some = h.some;
          few = h.few;
        },
      )
]

fraction_found : (m : List ℕ) → (f : Option (List ℕ)) × (m ≡ before_first is_point m ++ fraction_text f) × (after_first is_point m ≡ fraction_digits f)
fraction_found m = elim (cut_first is_point m) [
  | inl uncut ↦ (None, sym uncut.0 ∙ sym (append-nil (before_first is_point m)), uncut.1)
  | inr cut ↦ (Some (after_first is_point m), cut.3 ∙ ap (λ (b : ℕ). before_first is_point m ++ (b ∷ after_first is_point m)) (eqb-true cut.0 46 cut.1), refl)
]

pub parts_found : (bytes : List ℕ) → is_time_text bytes ≡ true → (parts : TimeParts) × AreParts bytes parts
parts_found bytes form =
    let h = has_form bytes form in
    let e = exponent_found bytes h.good_exponent in
    let f = fraction_found (mantissa bytes) in (
      record { whole = whole bytes; fraction = f.0; exponent = e.0 },
      record {
        text = e.1 ∙ ap (λ (l : List ℕ). l ++ exponent_text e.0) f.1 ∙ append_assoc (whole bytes) (fraction_text f.0) (exponent_text e.0);
        short = h.short;
        whole = h.whole_digits;
        fraction = rw (← f.2) h.fraction_digits;
        some = rw (← f.2) (omega (arith, h.some));
        exponent = e.2;
      },
    )
