-- Cutting a text into lines.
use Rattle.std.proofs.Common.{◌≡◌, ℕ, suc, ◌+◌, ◌<◌, false, not, List, [], ◌∷◌, length, take, drop, Some, None, refl, inl, inr, arith}
use Rattle.std.specs.List.{position, position_or_len}
use Rattle.std.proofs.lemmas.Bool.{cases_Bool, lt-ltb, le-ltb, cases_lt}
use Rattle.std.proofs.lemmas.List.Sums.{prefix_len-le-length}
use Rattle.config_text.specs.Lines.{is_line_end}
use Rattle.config_text.specs.Lines.{raw_lines}

-- the first line ends where the first LF stands
first_line : (bytes : List ℕ) → position_or_len is_line_end bytes < length bytes
    → raw_lines bytes ≡ take (position_or_len is_line_end bytes) bytes ∷ raw_lines (drop (position_or_len is_line_end bytes + 1) bytes)
unfolding raw_lines
first_line [] some = absurd (omega arith)
first_line (b ∷ bytes) some =
    elim (cases_Bool (is_line_end b)) [
      | inl ends ↦ rw ends refl
      | inr goes ↦
          let lt : position_or_len is_line_end bytes < length bytes = omega (arith, rw goes at some) in
          let e : 1 + position_or_len is_line_end bytes ≡ suc (position_or_len is_line_end bytes) = omega arith in
          let f : suc (position_or_len is_line_end bytes) + 1 ≡ suc (position_or_len is_line_end bytes + 1) = omega arith in
          rw (goes, e, f) (rw (first_line bytes lt) refl)
    ]

-- with no LF all of it is the first line
goes_on : (b : ℕ) (bytes : List ℕ) → position_or_len is_line_end (b ∷ bytes) ≡ length (b ∷ bytes) → (is_line_end b ≡ false) × (position_or_len is_line_end bytes ≡ length bytes)
goes_on b bytes none =
    elim (cases_Bool (is_line_end b)) [
      | inl ends ↦ absurd (omega (arith, rw ends at none))
      | inr goes ↦ (goes, omega (arith, rw goes at none))
    ]

only_line : (b : ℕ) (bytes : List ℕ) → position_or_len is_line_end (b ∷ bytes) ≡ length (b ∷ bytes) → raw_lines (b ∷ bytes) ≡ (b ∷ bytes) ∷ []
unfolding raw_lines
only_line b [] none = rw (goes_on b [] none).0 refl
only_line b (c ∷ more) none = rw (goes_on b (c ∷ more) none).0 (rw (only_line c more (goes_on b (c ∷ more) none).1) refl)

pub split_at_end : (bytes : List ℕ) (end : ℕ) → Some end ≡ position is_line_end bytes → raw_lines bytes ≡ take end bytes ∷ raw_lines (drop (end + 1) bytes)
split_at_end bytes end e =
    elim (cases_lt (position_or_len is_line_end bytes) (length bytes)) [
      | inl lt ↦
          let same : Some end ≡ Some (position_or_len is_line_end bytes) = rw (lt-ltb _ _ lt) at e in
          let place : end ≡ position_or_len is_line_end bytes = cc in
          rw place (first_line bytes lt)
      | inr ge ↦ let other : Some end ≡ None = rw (le-ltb _ _ ge) at e in absurd cc
    ]

pub no_end : (bytes : List ℕ) → 0 < length bytes → position is_line_end bytes ≡ None → raw_lines bytes ≡ bytes ∷ []
unfolding raw_lines
no_end [] some e = absurd (omega arith)
no_end (b ∷ bytes) some e =
    elim (cases_lt (position_or_len is_line_end (b ∷ bytes)) (length (b ∷ bytes))) [
      | inl lt ↦ let other : Some (position_or_len is_line_end (b ∷ bytes)) ≡ None = rw (lt-ltb _ _ lt) at e in absurd cc
      | inr ge ↦ only_line b bytes (omega (arith, prefix_len-le-length (λ x. not (is_line_end x)) (b ∷ bytes)))
    ]
