-- The number that digits write.
use Rattle.std.proofs.Common.{◌≡◌, ℕ, ◌+◌, ◌-◌, ◌*◌, ◌^◌, ◌<◌, ◌≤◌, true, false, leb, ltb, List, [], ◌∷◌, ◌++◌, length, take, get_or, refl, arith}
use Rattle.std.specs.Prelude.{min}
use Rattle.std.specs.Char.{digit_value, is_ascii_digit}
use Rattle.std.specs.List.{list_all}
use Rattle.std.specs.Str.Parse.{digits_value, digits_value_after, AllDigits}
use Rattle.std.proofs.lemmas.Bool.{and_parts, and_from, le-leb, leb-true, lt-ltb, le-ltb}
use Rattle.std.proofs.lemmas.Str.Parse.{digit_from_value}
use Rattle.std.proofs.lemmas.Int.Digits.{digits_value-lt}
use Rattle.std.proofs.Math.Nat.{pow-le-pow_right}
use Rattle.std.proofs.lemmas.List.{take_more}
use Rattle.std.proofs.lemmas.List.Sums.{AllPass-from_list_all}

pub digits_value_after-append : (radix n : ℕ) (xs ys : List ℕ) → digits_value_after radix n (xs ++ ys) ≡ digits_value_after radix (digits_value_after radix n xs) ys
digits_value_after-append radix n [] ys = refl
digits_value_after-append radix n (x ∷ xs) ys = digits_value_after-append radix (n * radix + digit_value x) xs ys

-- what a digit is worth
pub digit_is : (b : ℕ) → is_ascii_digit b ≡ true → (48 ≤ b) × (b < 58) × (digit_value b ≡ b - 48)
digit_is b is_digit =
    let parts = and_parts (leb 48 b) (leb b 57) is_digit in
    let low = leb-true 48 b parts.0 in
    let high = leb-true b 57 parts.1 in
    let not_below : ltb b 48 ≡ false = le-ltb b 48 low in
    let below : ltb b 58 ≡ true = lt-ltb b 58 (omega arith) in
    (low, omega arith, rw (not_below, below) refl)

-- the digit at a place is one
pub digit_at : (ds : List ℕ) (i : ℕ) → list_all is_ascii_digit ds ≡ true → i < length ds → (48 ≤ get_or ds i 0) × (get_or ds i 0 < 58) × (digit_value (get_or ds i 0) ≡ get_or ds i 0 - 48)
digit_at ds i digits lt = digit_is (get_or ds i 0) (AllPass-from_list_all is_ascii_digit ds digits i 0 lt)

-- ---- a step of reading digits

-- the number is that of the first digits behind those of `number`, or the most where it is above that
pub record IsNumberSoFar (most number : ℕ) (ds : List ℕ) (count value : ℕ) : Type 0 where
  pub is : value ≡ min (digits_value_after 10 number (take count ds)) most

pub one_more : (most number : ℕ) (ds : List ℕ) (i value : ℕ) → list_all is_ascii_digit ds ≡ true → i < length ds → IsNumberSoFar most number ds i value
    → IsNumberSoFar most number ds (i + 1) (min (min (value * 10) most + (get_or ds i 0 - 48)) most)
one_more most number ds i value digits lt so_far =
    let d = digit_at ds i digits lt in
    let more : digits_value_after 10 number (take (i + 1) ds) ≡ digits_value_after 10 number (take i ds) * 10 + digit_value (get_or ds i 0) =
    rw (take_more ds i 0 lt) (digits_value_after-append 10 number (take i ds) (get_or ds i 0 ∷ [])) in
    record { is = omega (arith, more, d.2, so_far.is) }

-- ---- how great it can be

all_digits : (ds : List ℕ) → list_all is_ascii_digit ds ≡ true → AllDigits 10 ds
all_digits [] all = tt
all_digits (d ∷ ds) all =
    let parts = and_parts (is_ascii_digit d) (list_all is_ascii_digit ds) all in
    let digit = digit_is d parts.0 in
    (omega (arith, digit.0, digit.1, digit.2), all_digits ds parts.1)

pub are_ascii_digits : (ds : List ℕ) → AllDigits 10 ds → list_all is_ascii_digit ds ≡ true
are_ascii_digits [] digits = refl
are_ascii_digits (c ∷ cs) digits =
    let r = digit_from_value c digits.0 in
    and_from (is_ascii_digit c) _ (and_from (leb 48 c) (leb c 57) (le-leb 48 c r.0) (le-leb c 57 r.1)) (are_ascii_digits cs digits.1)

-- the number of so many digits, or of fewer
pub digits_value-below : (most : ℕ) (ds : List ℕ) → list_all is_ascii_digit ds ≡ true → length ds ≤ most → digits_value 10 ds < 10 ^ most
digits_value-below most ds digits few =
    let lt : digits_value 10 ds < 10 ^ length ds = digits_value-lt 10 ds (all_digits ds digits) in
    let up : 10 ^ length ds ≤ 10 ^ most = pow-le-pow_right (omega arith) few in
    omega (arith, lt, up)
