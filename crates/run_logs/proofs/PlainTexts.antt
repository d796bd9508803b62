-- Numbers, names and words have plain bytes alone.
use Rattle.std.proofs.Common.{◌≡◌, ℕ, suc, ◌+◌, ◌<◌, ◌%◌, ◌^◌, true, List, [], ◌∷◌, refl, arith}
use Rattle.std.specs.Prelude.{ℤ, pos, negsuc}
use Rattle.std.specs.List.{list_all}
use Rattle.std.specs.Fmt.{decimal, signed_decimal}
use Rattle.std.proofs.lemmas.Bool.{and_parts, and_from, agree_below_at}
use Rattle.std.proofs.lemmas.Fmt.{decimal_by_steps}
use Rattle.std.proofs.lemmas.Int.{ints}
use Rattle.std.specs.Int.{w64}
use Rattle.std.proofs.Common.{SFits}
use Rattle.std.proofs.lemmas.List.Folds.{list_all-append}
use Rattle.music_base.specs.Names.{is_in_names, is_in_words, is_name, is_word}

digit_is_plain : (n : ℕ) → n < 10 → is_in_words (48 + n) ≡ true
digit_is_plain n lt = agree_below_at (λ n. is_in_words (48 + n)) (λ n. true) 10 n refl lt

one_digit : (n : ℕ) → n < 10 → list_all is_in_words ((48 + n) ∷ []) ≡ true
one_digit n lt = rw (digit_is_plain n lt) refl

pub decimal_is_plain : (n : ℕ) → n < 2 ^ 64 → list_all is_in_words (decimal n) ≡ true
decimal_is_plain = decimal_by_steps (λ n text. list_all is_in_words text ≡ true) one_digit
    (λ n text ge plain. rw (list_all-append is_in_words text ((48 + n % 10) ∷ []), plain) (one_digit (n % 10) (omega arith)))

-- as an i64 is seen
pub signed_decimal_is_plain : (z : ℤ) → SFits w64 z → list_all is_in_words (signed_decimal z) ≡ true
signed_decimal_is_plain (pos n) fits = decimal_is_plain n (omega (arith, ints, fits))
signed_decimal_is_plain (negsuc n) fits = decimal_is_plain (suc n) (omega (arith, ints, fits))

in_names_in_words : (b : ℕ) → is_in_names b ≡ true → is_in_words b ≡ true
in_names_in_words b in_names = rw in_names refl

all_in_words : (bytes : List ℕ) → list_all is_in_names bytes ≡ true → list_all is_in_words bytes ≡ true
all_in_words [] all = refl
all_in_words (b ∷ bytes) all =
    let parts = and_parts (is_in_names b) (list_all is_in_names bytes) all in
    and_from (is_in_words b) (list_all is_in_words bytes) (in_names_in_words b parts.0) (all_in_words bytes parts.1)

pub name_is_plain : (name : List ℕ) → is_name name ≡ true → list_all is_in_words name ≡ true
name_is_plain name is = all_in_words name (and_parts _ (list_all is_in_names name) is).1

pub word_is_plain : (word : List ℕ) → is_word word ≡ true → list_all is_in_words word ≡ true
word_is_plain word is = (and_parts _ (list_all is_in_words word) is).1
