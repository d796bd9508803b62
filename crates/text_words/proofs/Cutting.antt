-- Parts of a text, one after the other.
use Rattle.std.proofs.Common.{◌≡◌, ℕ, ◌+◌, ◌-◌, ◌<◌, ◌≤◌, Bool, false, List, [], ◌∷◌, length, take, drop, refl, sym, ◌∙◌, inl, inr, arith}
use Rattle.std.specs.Prelude.{Some, None}
use Rattle.std.specs.List.{position, position_or_len, slice_split}
use Rattle.std.proofs.lemmas.Bool.{cases_Bool, lt-ltb, le-ltb, cases_lt}
use Rattle.std.proofs.lemmas.List.{take_all, length-drop}
use Rattle.std.proofs.lemmas.List.Splits.{slice_split_first}
use Rattle.music_base.specs.Blanks.{is_blank}
use Rattle.text_words.specs.Words.{is_semicolon, words, declarations}
use Rattle.text_words.specs.Parts.{with_some}

-- what stands behind place i, as the code takes it
abbrev pub behind : ℕ → List ℕ → List ℕ
behind i xs = take (length xs - (i + 1)) (drop (i + 1) xs)

place_is : (p : ℕ → Bool) (xs : List ℕ) (i : ℕ) → Some i ≡ position p xs → (i ≡ position_or_len p xs) × (i < length xs)
place_is p xs i e =
    elim (cases_lt (position_or_len p xs) (length xs)) [
      | inl lt ↦
          let same : Some i ≡ Some (position_or_len p xs) = rw (lt-ltb _ _ lt) at e in
          let place : i ≡ position_or_len p xs = cc in
          (place, omega (arith, place, lt))
      | inr ge ↦ let other : Some i ≡ None = rw (le-ltb _ _ ge) at e in absurd cc
    ]

-- the first part ends at the first such place
pub first_part : (p : ℕ → Bool) (xs : List ℕ) (i : ℕ) → Some i ≡ position p xs → slice_split p xs ≡ take i xs ∷ slice_split p (behind i xs)
first_part p xs i e =
    let place = place_is p xs i e in
    rw (take_all (length xs - (i + 1)) (drop (i + 1) xs) (omega (arith, length-drop (i + 1) xs)), place.0)
    (slice_split_first p xs 0 (omega (arith, place.0, place.1)))

goes_on : (p : ℕ → Bool) (b : ℕ) (bytes : List ℕ) → length (b ∷ bytes) ≤ position_or_len p (b ∷ bytes) → (p b ≡ false) × (length bytes ≤ position_or_len p bytes)
goes_on p b bytes none =
    elim (cases_Bool (p b)) [
      | inl ends ↦ absurd (omega (arith, rw ends at none))
      | inr goes ↦ (goes, omega (arith, rw goes at none))
    ]

one_part : (p : ℕ → Bool) (bytes : List ℕ) → length bytes ≤ position_or_len p bytes → slice_split p bytes ≡ bytes ∷ []
one_part p [] none = refl
one_part p (b ∷ bytes) none = let on = goes_on p b bytes none in rw on.0 (rw (one_part p bytes on.1) refl)

-- with no such place all is one part
pub only_part : (p : ℕ → Bool) (xs : List ℕ) → None ≡ position p xs → slice_split p xs ≡ xs ∷ []
only_part p xs e =
    elim (cases_lt (position_or_len p xs) (length xs)) [
      | inl lt ↦ let other : None ≡ Some (position_or_len p xs) = rw (lt-ltb _ _ lt) at e in absurd cc
      | inr ge ↦ one_part p xs ge
    ]

-- ---- words

pub words_first : (text : List ℕ) (i : ℕ) → Some i ≡ position is_blank text → words text ≡ with_some (take i text) (words (behind i text))
unfolding words
words_first text i e = rw (first_part is_blank text i e) refl

pub words_only : (text : List ℕ) → None ≡ position is_blank text → words text ≡ with_some text (words [])
unfolding words
words_only text e = rw (only_part is_blank text e) refl

words-nil : words [] ≡ []
unfolding words
words-nil = refl

-- nothing is left, so there were no words
pub words_none_left : (rest text : List ℕ) → length rest ≡ 0 → words rest ≡ words text → words text ≡ []
words_none_left [] text none e = sym e ∙ words-nil
words_none_left (b ∷ rest) text none e = absurd (omega (arith, none))

-- ---- declarations

pub declarations_first : (text : List ℕ) (i : ℕ) → Some i ≡ position is_semicolon text → declarations text ≡ with_some (words (take i text)) (declarations (behind i text))
unfolding declarations
declarations_first text i e = rw (first_part is_semicolon text i e) refl

pub declarations_only : (text : List ℕ) → None ≡ position is_semicolon text → declarations text ≡ with_some (words text) (declarations [])
unfolding declarations words
declarations_only text e = rw (only_part is_semicolon text e) refl

declarations-nil : declarations [] ≡ []
unfolding declarations words
declarations-nil = refl

-- nothing is left, so there were no declarations
pub declarations_none_left : (rest text : List ℕ) → length rest ≡ 0 → declarations rest ≡ declarations text → declarations text ≡ []
declarations_none_left [] text none e = sym e ∙ declarations-nil
declarations_none_left (b ∷ rest) text none e = absurd (omega (arith, none))
