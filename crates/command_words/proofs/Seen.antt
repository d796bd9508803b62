-- What a word is: to `clap`'s lexer, and to the definition.
use Rattle.std.proofs.Common.{◌≡◌, ◌∙◌, ℕ, suc, Bool, true, false, List, ◌∷◌, ◌++◌, Option, Some, None, length, take, drop, ap, sym, refl, arith, true≢false, codes, ◌||◌, nat_eq}
use Rattle.std.specs.Prelude.{slice_get, bytes_eq}
use Rattle.std.specs.Str.{chars}
use Rattle.std.specs.List.{list_any, starts_with}
use Rattle.std.proofs.lemmas.Slice.Eq.{bytes_eq-Decides}
use Rattle.std.proofs.lemmas.List.{take-append-drop}
use Rattle.clap.specs.Lexer.{long_of, short_of}
use Rattle.clap.specs.Walk.{Text}
use Rattle.command_words.specs.Words.{Options, with_one_word, is_option_name}
use Rattle.command_words.proofs.Lexed.{short_not_empty}
use Rattle.command_words.proofs.Given.{single, joint}

pub same_text : (a b : Text) → bytes_eq a b ≡ true → a ≡ b
same_text a b e = (bytes_eq-Decides a b).0 e

-- ---- the word `--`

abbrev pub dashes : Text
dashes = codes "--"

-- no word is `--`
abbrev pub AllApart : List Text → Type 0
AllApart words = list_any (λ word. bytes_eq word dashes) words ≡ false

pub first_apart : (word : Text) (rest : List Text) → AllApart (word ∷ rest) → bytes_eq word dashes ≡ false
first_apart word rest e = go (bytes_eq word dashes) e
  where
    go : (b : Bool) → (b || list_any (λ word. bytes_eq word dashes) rest) ≡ false → b ≡ false
    go true f = f
    go false f = refl

pub rest_apart : (word : Text) (rest : List Text) → AllApart (word ∷ rest) → AllApart rest
rest_apart word rest e = go (bytes_eq word dashes) e
  where
    go : (b : Bool) → (b || list_any (λ word. bytes_eq word dashes) rest) ≡ false → AllApart rest
    go true f = absurd (true≢false f)
    go false f = f

-- ---- to the lexer

-- what a word other than `--` is: a long flag, a bundle of short ones, a hyphen with bytes that are no text, or neither
pub data Sees (word : Text) : Type 0 where
  sees_long : (p : Text × Option Text) → long_of word ≡ Some p → Sees word
  sees_bundle : (flags : Text) (x : ℕ) → long_of word ≡ None → short_of word ≡ Some flags → slice_get (chars flags) 0 ≡ Some x → Sees word
  sees_dash : (flags : Text) → long_of word ≡ None → short_of word ≡ Some flags → slice_get (chars flags) 0 ≡ None → Sees word
  sees_plain : long_of word ≡ None → short_of word ≡ None → Sees word

pub seen : (word : Text) → Sees word
seen word = go (long_of word) refl
  where
    third : (flags : Text) → long_of word ≡ None → short_of word ≡ Some flags → (o : Option ℕ) → slice_get (chars flags) 0 ≡ o → Sees word
    third flags l s None e = sees_dash flags l s e
    third flags l s (Some x) e = sees_bundle flags x l s e

    second : long_of word ≡ None → (o : Option Text) → short_of word ≡ o → Sees word
    second l None e = sees_plain l e
    second l (Some flags) e = third flags l e (slice_get (chars flags) 0) refl

    go : (o : Option (Text × Option Text)) → long_of word ≡ o → Sees word
    go None e = second e (short_of word) refl
    go (Some p) e = sees_long p e

pub counted : (word flags : Text) → short_of word ≡ Some flags → (n : ℕ) × (length flags ≡ suc n)
counted word flags is =
    let parts = short_not_empty word flags is in
    let n = length parts.1 in
    let e : length (parts.0 ∷ parts.1) ≡ suc n = omega arith in
    (n, ap length parts.2 ∙ e)

-- ---- to the definition

-- what a word is: the name of an option, an option with its text, or neither
pub data Sort (word : Text) : Type 0 where
  is_single : (which : Bool) → word ≡ single which → Sort word
  is_joint : (which : Bool) (v : Text) → word ≡ joint which v → Sort word
  is_other : is_option_name word ≡ false → ((o : Options) → with_one_word o word ≡ None) → ((which : Bool) → word ≡ single which → ⊥)
      → ((which : Bool) (v : Text) → word ≡ joint which v → ⊥) → Sort word

-- what an option with its text begins with
abbrev front_of : Bool → Text
front_of true = codes "--workers="
front_of false = codes "--number="

begins : (which : Bool) (word : Text) → starts_with nat_eq word (front_of which) ≡ true → (text : Text) × (word ≡ joint which text)
begins which word begun = (drop (length (front_of which)) word, whole ∙ joined which (drop (length (front_of which)) word))
  where
    whole : word ≡ front_of which ++ drop (length (front_of which)) word
    whole =
        sym (take-append-drop (length (front_of which)) word)
        ∙ ap (λ front. front ++ drop (length (front_of which)) word) (sym (same_text (front_of which) (take (length (front_of which)) word) begun))

    joined : (which : Bool) (text : Text) → front_of which ++ text ≡ joint which text
    joined true text = refl
    joined false text = refl

begun_so : (which : Bool) (text : Text) → starts_with nat_eq (joint which text) (front_of which) ≡ true
begun_so true text = refl
begun_so false text = refl

named_so : (which : Bool) → is_option_name (single which) ≡ true
named_so true = refl
named_so false = refl

-- a word that is neither
other : (word : Text) → is_option_name word ≡ false → starts_with nat_eq word (front_of true) ≡ false → starts_with nat_eq word (front_of false) ≡ false → Sort word
other word no_name no_workers no_number = is_other no_name (λ o. rw (no_workers, no_number) refl) not_single not_joint
  where
    not_single : (which : Bool) → word ≡ single which → ⊥
    not_single which is = true≢false (sym (ap is_option_name is ∙ named_so which) ∙ no_name)

    not_begun : (which : Bool) → starts_with nat_eq word (front_of which) ≡ false
    not_begun true = no_workers
    not_begun false = no_number

    not_joint : (which : Bool) (text : Text) → word ≡ joint which text → ⊥
    not_joint which text is =
        true≢false (sym (ap (λ w. starts_with nat_eq w (front_of which)) is ∙ begun_so which text) ∙ not_begun which)

pub sorted : (word : Text) → Sort word
sorted word = by_workers (bytes_eq word (single true)) refl
  where
    by_number_text : is_option_name word ≡ false → starts_with nat_eq word (front_of true) ≡ false
        → (b : Bool) → starts_with nat_eq word (front_of false) ≡ b → Sort word
    by_number_text no_name no_workers true begun = is_joint false (begins false word begun).0 (begins false word begun).1
    by_number_text no_name no_workers false no_number = other word no_name no_workers no_number

    by_workers_text : is_option_name word ≡ false → (b : Bool) → starts_with nat_eq word (front_of true) ≡ b → Sort word
    by_workers_text no_name true begun = is_joint true (begins true word begun).0 (begins true word begun).1
    by_workers_text no_name false no_workers = by_number_text no_name no_workers (starts_with nat_eq word (front_of false)) refl

    by_number : bytes_eq word (single true) ≡ false → (b : Bool) → bytes_eq word (single false) ≡ b → Sort word
    by_number no_workers true is = is_single false (same_text word (single false) is)
    by_number no_workers false no_number = by_workers_text (rw (no_workers, no_number) refl) (starts_with nat_eq word (front_of true)) refl

    by_workers : (b : Bool) → bytes_eq word (single true) ≡ b → Sort word
    by_workers true is = is_single true (same_text word (single true) is)
    by_workers false no_workers = by_number no_workers (bytes_eq word (single false)) refl
