-- The digits of nanoseconds, and the zeros at their end.
use Rattle.std.proofs.Common.{◌≡◌, ◌≢◌, ℕ, zero, suc, ◌+◌, ◌-◌, ◌*◌, ◌/◌, ◌%◌, ◌^◌, ◌<◌, ◌≤◌, Bool, true, false, leb, eqb, List, [], ◌∷◌, ◌++◌, length, refl, sym, ap, ◌∙◌, inl, inr, arith, append_assoc}
use Rattle.std.specs.Char.{is_ascii_digit}
use Rattle.std.specs.List.{suffix_len, list_all}
use Rattle.std.specs.Str.Parse.{digits_value_after}
use Rattle.std.proofs.Math.Nat.{pow-suc}
use Rattle.std.proofs.lemmas.Bool.{cases_eq, ne_eqb, and_parts, and_from, le-leb}
use Rattle.std.proofs.lemmas.List.{length-append, take-append-le, take_all, reverse-append}
use Rattle.std.proofs.lemmas.List.Sums.{suffix_len-le-length}
use Rattle.music_base.specs.Times.{lowest_digits, without_trailing_zeros}
use Rattle.music_base.proofs.DigitValues.{digit_is, digits_value_after-append}

-- ---- zeros at the end

abbrev is_zero : ℕ → Bool
is_zero b = eqb b 48

suffix_len-push_passing : (p : ℕ → Bool) (xs : List ℕ) (x : ℕ) → p x ≡ true → suffix_len p (xs ++ x ∷ []) ≡ 1 + suffix_len p xs
suffix_len-push_passing p xs x passes = rw (reverse-append xs (x ∷ []), passes) refl

suffix_len-push_failing : (p : ℕ → Bool) (xs : List ℕ) (x : ℕ) → p x ≡ false → suffix_len p (xs ++ x ∷ []) ≡ 0
suffix_len-push_failing p xs x fails = rw (reverse-append xs (x ∷ []), fails) refl

pub without_trailing_zeros-zero : (xs : List ℕ) → without_trailing_zeros (xs ++ 48 ∷ []) ≡ without_trailing_zeros xs
without_trailing_zeros-zero xs =
    let le = suffix_len-le-length is_zero xs in
    let len : length (xs ++ 48 ∷ []) - suffix_len is_zero (xs ++ 48 ∷ []) ≡ length xs - suffix_len is_zero xs =
    omega (arith, length-append xs (48 ∷ []), suffix_len-push_passing is_zero xs 48 refl) in
    rw len (take-append-le (length xs - suffix_len is_zero xs) xs (48 ∷ []) (omega arith))

pub without_trailing_zeros-other : (xs : List ℕ) (x : ℕ) → x ≢ 48 → without_trailing_zeros (xs ++ x ∷ []) ≡ xs ++ x ∷ []
without_trailing_zeros-other xs x other =
    take_all _ (xs ++ x ∷ []) (omega (arith, suffix_len-push_failing is_zero xs x (ne_eqb x 48 other)))

-- ---- what the loop over the zeros keeps

-- the lowest count digits of number are nine digits of nanos, without some zeros at the end
pub record IsLeft (nanos count number : ℕ) : Type 0 where
  pub same : without_trailing_zeros (lowest_digits count number) ≡ without_trailing_zeros (lowest_digits 9 nanos)
  pub some : 0 < number
  pub below : number < 10 ^ count

pub one_less : (nanos count number : ℕ) → number % 10 ≡ 0 → IsLeft nanos count number → (0 < count) × IsLeft nanos (count - 1) (number / 10)
one_less nanos zero number e left = absurd (omega (arith, left.some, left.below))
one_less nanos (suc count) number e left =
    let e1 : suc count - 1 ≡ count = omega arith in (
      omega arith,
      rw e1 (record {
        same = sym (without_trailing_zeros-zero (lowest_digits count (number / 10))) ∙ ap (λ (d : ℕ). without_trailing_zeros (lowest_digits count (number / 10) ++ (48 + d) ∷ [])) (sym e) ∙ left.same;
        some = omega (arith, left.some, e);
        below = omega (arith, left.below, pow-suc 10 count, e);
      }),
    )

pub left_over : (nanos count number : ℕ) → number % 10 ≢ 0 → IsLeft nanos count number → lowest_digits count number ≡ without_trailing_zeros (lowest_digits 9 nanos)
left_over nanos zero number e left = absurd (omega (arith, left.some, left.below))
left_over nanos (suc count) number e left = sym (without_trailing_zeros-other (lowest_digits count (number / 10)) (48 + number % 10) (omega arith)) ∙ left.same

-- one more digit behind those of number / 10
pub one_digit : (count number : ℕ) (old mid : List ℕ) → 0 < count → mid ≡ old ++ lowest_digits (count - 1) (number / 10) → mid ++ (48 + number % 10) ∷ [] ≡ old ++ lowest_digits count number
one_digit zero number old mid pos e = absurd (omega arith)
one_digit (suc count) number old mid pos e =
    let e1 : suc count - 1 ≡ count = omega arith in
    rw (e, e1) (append_assoc old (lowest_digits count (number / 10)) ((48 + number % 10) ∷ []))

-- ---- the digits that are written

list_all-push : (xs : List ℕ) (b : ℕ) → list_all is_ascii_digit xs ≡ true → is_ascii_digit b ≡ true → list_all is_ascii_digit (xs ++ b ∷ []) ≡ true
list_all-push [] b digits one = rw one refl
list_all-push (x ∷ xs) b digits one =
    let parts = and_parts (is_ascii_digit x) (list_all is_ascii_digit xs) digits in
    and_from (is_ascii_digit x) _ parts.0 (list_all-push xs b parts.1 one)

digit_from : (d : ℕ) → d < 10 → is_ascii_digit (48 + d) ≡ true
digit_from d lt = and_from (leb 48 (48 + d)) (leb (48 + d) 57) (le-leb 48 (48 + d) (omega arith)) (le-leb (48 + d) 57 (omega arith))

pub lowest_are_digits : (k n : ℕ) → list_all is_ascii_digit (lowest_digits k n) ≡ true
lowest_are_digits zero n = refl
lowest_are_digits (suc k) n = list_all-push (lowest_digits k (n / 10)) (48 + n % 10) (lowest_are_digits k (n / 10)) (digit_from (n % 10) (omega arith))

pub length-lowest_digits : (k n : ℕ) → length (lowest_digits k n) ≡ k
length-lowest_digits zero n = refl
length-lowest_digits (suc k) n = omega (arith, length-append (lowest_digits k (n / 10)) ((48 + n % 10) ∷ []), length-lowest_digits k (n / 10))

-- the number of these digits behind those of s
pub digits_value_after-lowest_digits : (k s n : ℕ) → n < 10 ^ k → digits_value_after 10 s (lowest_digits k n) ≡ s * 10 ^ k + n
digits_value_after-lowest_digits zero s n lt = omega arith
digits_value_after-lowest_digits (suc k) s n lt =
    let one = digits_value_after-append 10 s (lowest_digits k (n / 10)) ((48 + n % 10) ∷ []) in
    let d = digit_is (48 + n % 10) (digit_from (n % 10) (omega arith)) in
    let more = digits_value_after-lowest_digits k s (n / 10) (omega (arith, lt, pow-suc 10 k)) in
    omega (arith, one, d.2, more, ap (λ (x : ℕ). s * x) (pow-suc 10 k))

-- k digits of n without their zeros at the end: the lowest j of t
pub record IsTrimmed (k n j t : ℕ) : Type 0 where
  pub within : j ≤ k
  pub is : without_trailing_zeros (lowest_digits k n) ≡ lowest_digits j t
  pub scaled : t * 10 ^ (k - j) ≡ n
  pub below : t < 10 ^ j

pub trimmed : (k n : ℕ) → 0 < n → n < 10 ^ k → (j : ℕ) × (t : ℕ) × IsTrimmed k n j t
trimmed zero n some below = absurd (omega (arith, some, below))
trimmed (suc k) n some below =
    elim (cases_eq (n % 10) 0) [
      | inl zero_last ↦
          let found = trimmed k (n / 10) (omega (arith, some, zero_last)) (omega (arith, below, pow-suc 10 k)) in
          let h = found.2 in
          let e : suc k - found.0 ≡ suc (k - found.0) = omega (arith, h.within) in (
            found.0,
            found.1,
            record {
              within = omega (arith, h.within);
              is = ap (λ (d : ℕ). without_trailing_zeros (lowest_digits k (n / 10) ++ (48 + d) ∷ [])) zero_last ∙ without_trailing_zeros-zero (lowest_digits k (n / 10)) ∙ h.is;
              scaled = rw e (omega (arith, h.scaled, zero_last, ap (λ (x : ℕ). found.1 * x) (pow-suc 10 (k - found.0))));
              below = h.below;
            },
          )
      | inr other ↦
          let e : suc k - suc k ≡ 0 = omega arith in (
            suc k,
            n,
            record {
              within = omega arith;
              is = without_trailing_zeros-other (lowest_digits k (n / 10)) (48 + n % 10) (λ same. other (omega (arith, same)));
              scaled = rw e (omega arith);
              below = below;
            },
          )
    ]
