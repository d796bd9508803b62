-- The words of options, written one behind the other, are read back.
use Rattle.std.proofs.Common.{◌≡◌, ℕ, ◌<◌, Bool, true, false, eqb, ◌||◌, List, [], ◌∷◌, ◌++◌, length, refl, ap, ◌∙◌, inl, inr, append-nil}
use Rattle.std.specs.List.{list_any, list_all, filter, slice_split}
use Rattle.std.proofs.lemmas.Bool.{and_parts, or_from, or_parts, or_cases, or_left, eqb-true, lt-ltb}
use Rattle.music_base.specs.Blanks.{space, is_blank}
use Rattle.music_base.specs.Names.{is_in_names}
use Rattle.text_words.specs.Words.{is_some_list, words}
use Rattle.config_text.proofs.Firsts.{all-weaker}
use Rattle.config_text.proofs.NameBytes.{misses_names, name_byte_misses}

-- ---- bytes of words of options

-- a byte of a name, a point or '='
abbrev pub is_option_byte : ℕ → Bool
is_option_byte b = (is_in_names b || eqb b 46) || eqb b 61

option_byte_misses : (p : ℕ → Bool) → misses_names p ≡ true → p 46 ≡ false → p 61 ≡ false → (b : ℕ) → is_option_byte b ≡ true → p b ≡ false
option_byte_misses p misses at_point at_equals b is =
    elim (or_cases (is_in_names b || eqb b 46) (eqb b 61) is) [
      | inl first ↦ elim (or_cases (is_in_names b) (eqb b 46) first) [
        | inl named ↦ name_byte_misses p misses b named
        | inr same ↦ ap p (eqb-true b 46 same) ∙ at_point
      ]
      | inr same ↦ ap p (eqb-true b 61 same) ∙ at_equals
    ]

-- a test that no byte of a word of options passes
pub none_in_option : (p : ℕ → Bool) → misses_names p ≡ true → p 46 ≡ false → p 61 ≡ false → (xs : List ℕ) → list_all is_option_byte xs ≡ true → list_any p xs ≡ false
none_in_option p misses at_point at_equals [] all = refl
none_in_option p misses at_point at_equals (x ∷ xs) all =
    let parts = and_parts (is_option_byte x) (list_all is_option_byte xs) all in
    or_from (p x) (list_any p xs) (option_byte_misses p misses at_point at_equals x parts.0) (none_in_option p misses at_point at_equals xs parts.1)

pub named_option : (xs : List ℕ) → list_all is_in_names xs ≡ true → list_all is_option_byte xs ≡ true
named_option = all-weaker is_in_names is_option_byte (λ b is. or_left (is_in_names b || eqb b 46) (eqb b 61) (or_left (is_in_names b) (eqb b 46) is))

-- ---- words

-- a word of options has a byte, and such bytes alone
pub record OptionWord (word : List ℕ) : Type 0 where
  pub some : 0 < length word
  pub all : list_all is_option_byte word ≡ true

abbrev pub AreWords : List (List ℕ) → Type 0
AreWords [] = Unit {0}
AreWords (word ∷ others) = OptionWord word × AreWords others

-- each behind a space
abbrev pub spaced : List (List ℕ) → List ℕ
spaced [] = []
spaced (word ∷ others) = space ∷ word ++ spaced others

split_past : (p : ℕ → Bool) (xs : List ℕ) (y : ℕ) (ys : List ℕ) → list_any p xs ≡ false → p y ≡ true → slice_split p (xs ++ y ∷ ys) ≡ xs ∷ slice_split p ys
split_past p [] y ys none passes = rw passes refl
split_past p (x ∷ xs) y ys none passes =
    let parts = or_parts (p x) (list_any p xs) none in
    rw (parts.0, split_past p xs y ys parts.1 passes) refl

split_only : (p : ℕ → Bool) (xs : List ℕ) → list_any p xs ≡ false → slice_split p xs ≡ xs ∷ []
split_only p [] none = refl
split_only p (x ∷ xs) none =
    let parts = or_parts (p x) (list_any p xs) none in
    rw (parts.0, split_only p xs parts.1) refl

split_words : (word : List ℕ) (others : List (List ℕ)) → OptionWord word → AreWords others → slice_split is_blank (word ++ spaced others) ≡ word ∷ others
split_words word [] is are = ap (slice_split is_blank) (append-nil word) ∙ split_only is_blank word (none_in_option is_blank refl refl refl word is.all)
split_words word (next ∷ others) is are =
    split_past is_blank word space (next ++ spaced others) (none_in_option is_blank refl refl refl word is.all) refl
    ∙ ap (λ (ws : List (List ℕ)). word ∷ ws) (split_words next others are.0 are.1)

all_some : (all : List (List ℕ)) → AreWords all → filter is_some_list all ≡ all
all_some [] are = refl
all_some (word ∷ others) are = rw (lt-ltb 0 (length word) are.0.some) (ap (λ (ws : List (List ℕ)). word ∷ ws) (all_some others are.1))

-- the words behind the blank that ends what stands in front
pub words_behind : (word : List ℕ) (others : List (List ℕ)) → OptionWord word → AreWords others → words (word ++ spaced others) ≡ word ∷ others
unfolding words
words_behind word others is are = ap (filter is_some_list) (split_words word others is are) ∙ all_some (word ∷ others) (is, are)

-- the words with the blank in front of them
pub words_spaced : (all : List (List ℕ)) → AreWords all → words (spaced all) ≡ all
unfolding words
words_spaced [] are = refl
words_spaced (word ∷ others) are = words_behind word others are.0 are.1
