-- The options of a connection, as they are written, are read back.
use Rattle.std.proofs.Common.{◌≡◌, ℕ, ◌≤◌, ◌/◌, ◌%◌, ◌^◌, true, false, leb, List, [], ◌∷◌, ◌++◌, refl, sym, ap, ◌∙◌, inl, inr, arith, append-nil, Option, Some, None}
use Rattle.std.specs.Prelude.{codes, Ok}
use Rattle.std.specs.Char.{is_ascii_digit}
use Rattle.std.specs.Fmt.{decimal}
use Rattle.std.specs.List.{list_any, list_all}
use Rattle.std.proofs.lemmas.Bool.{and_parts, and_from, leb-true, le-leb, cases_eq, eq-eqb, ne_eqb}
use Rattle.std.proofs.lemmas.Fmt.{decimal_is_IsNumeral}
use Rattle.std.proofs.lemmas.List.{length-append}
use Rattle.music_base.specs.Blanks.{space}
use Rattle.music_base.specs.Counts.{is_count, count_up_to}
use Rattle.music_base.specs.Names.{is_in_names}
use Rattle.music_base.specs.Times.{canonical_time, greatest_time, lowest_digits, without_trailing_zeros, nanos_text, time_value}
use Rattle.music_base.proofs.DigitValues.{are_ascii_digits}
use Rattle.music_base.proofs.FirstPlaces.{before_first-at, after_first-at}
use Rattle.music_base.proofs.Fraction.{lowest_are_digits}
use Rattle.music_base.proofs.WrittenTimes.{canonical_time_spells}
use Rattle.music_base.proofs.TimeLaws.{valued}
use Rattle.text_words.specs.Words.{words}
use Rattle.config_text.specs.Bytes.{is_equals}
use Rattle.config_text.specs.declared.link_options.LinkOptions.{LinkOptions}
use Rattle.config_text.specs.Options.{no_options, most_buffered, option_in, option_named, options_in_turn, options_in, is_latency, is_buffered, latency_text, buffered_text}
use Rattle.config_text.proofs.Firsts.{all-append, all-weaker, any-middle}
use Rattle.config_text.proofs.TextBytes.{list_all-take}
use Rattle.config_text.proofs.WrittenEnds.{digit_in_names, digits_in_names}
use Rattle.config_text.proofs.OptionWords.{is_option_byte, OptionWord, AreWords, spaced, named_option}

-- ---- the bytes of a time

digits_option : (ds : List ℕ) → list_all is_ascii_digit ds ≡ true → list_all is_option_byte ds ≡ true
digits_option ds all = named_option ds (all-weaker is_ascii_digit is_in_names digit_in_names ds all)

nanos_bytes : (nanos : ℕ) → list_all is_option_byte (nanos_text nanos) ≡ true
nanos_bytes nanos =
    elim (cases_eq nanos 0) [
      | inl none ↦ rw (eq-eqb nanos 0 none) refl
      | inr some ↦
          let digits = lowest_digits 9 nanos in
          rw (ne_eqb nanos 0 some) (digits_option (without_trailing_zeros digits) (list_all-take is_ascii_digit _ digits (lowest_are_digits 9 nanos)))
    ]

-- the canonical spelling of a time has digits and a point, and at least one byte
time_word : (time : ℕ) → time ≤ greatest_time → OptionWord (canonical_time time)
unfolding canonical_time
time_word time le =
    let numeral = decimal_is_IsNumeral (time / 10 ^ 9) (omega (arith, le)) in
    record {
      some = omega (arith, numeral.0.0, length-append (decimal (time / 10 ^ 9)) (nanos_text (time % 10 ^ 9)));
      all = all-append is_option_byte (decimal (time / 10 ^ 9)) (nanos_text (time % 10 ^ 9)) (digits_option (decimal (time / 10 ^ 9)) (are_ascii_digits (decimal (time / 10 ^ 9)) numeral.0.1)) (nanos_bytes (time % 10 ^ 9));
    }

time_read : (time : ℕ) → time ≤ greatest_time → time_value (canonical_time time) ≡ Ok time
time_read time le = valued (canonical_time time) time (canonical_time_spells time le, le)

-- ---- the words

abbrev pub latency_words : Option ℕ → List (List ℕ)
latency_words None = []
latency_words (Some time) = (codes "latency=" ++ canonical_time time) ∷ []

abbrev pub buffered_words : Option ℕ → List (List ℕ)
buffered_words None = []
buffered_words (Some count) = (codes "buffered=" ++ decimal count) ∷ []

abbrev pub option_words : LinkOptions → List (List ℕ)
option_words options = latency_words options.latency ++ buffered_words options.buffered

-- what is written are those words, each behind a space
pub options_spaced : (options : LinkOptions) → latency_text options.latency ++ buffered_text options.buffered ≡ spaced (option_words options)
options_spaced options = go options.latency options.buffered
  where
    go : (latency buffered : Option ℕ) → latency_text latency ++ buffered_text buffered ≡ spaced (latency_words latency ++ buffered_words buffered)
    go None None = refl
    go None (Some count) = ap (λ (l : List ℕ). space ∷ codes "buffered=" ++ l) (sym (append-nil (decimal count)))
    go (Some time) None = ap (λ (l : List ℕ). space ∷ codes "latency=" ++ l) refl
    go (Some time) (Some count) = ap (λ (l : List ℕ). latency_text (Some time) ++ space ∷ l) (sym (append-nil (codes "buffered=" ++ decimal count)))

latency_is : (time : ℕ) → is_latency (Some time) ≡ true → OptionWord (codes "latency=" ++ canonical_time time)
latency_is time fits =
    let w = time_word time (leb-true time greatest_time fits) in
    record { some = omega (arith, length-append (codes "latency=") (canonical_time time), w.some); all = all-append is_option_byte (codes "latency=") (canonical_time time) refl w.all }

count_top : (count : ℕ) → is_buffered (Some count) ≡ true → (1 ≤ count) × (count ≤ most_buffered)
count_top count fits =
    let parts = and_parts (leb 1 count) (leb count most_buffered) fits in
    (leb-true 1 count parts.0, leb-true count most_buffered parts.1)

buffered_is : (count : ℕ) → is_buffered (Some count) ≡ true → OptionWord (codes "buffered=" ++ decimal count)
buffered_is count fits =
    let numeral = decimal_is_IsNumeral count (omega (arith, (count_top count fits).1)) in
    record {
      some = omega (arith, length-append (codes "buffered=") (decimal count), numeral.0.0);
      all = all-append is_option_byte (codes "buffered=") (decimal count) refl (named_option (decimal count) (digits_in_names (decimal count) numeral.0.1));
    }

-- the options are lawful
pub record LawfulOptions (options : LinkOptions) : Type 0 where
  pub latency : is_latency options.latency ≡ true
  pub buffered : is_buffered options.buffered ≡ true

pub are_option_words : (options : LinkOptions) → LawfulOptions options → AreWords (option_words options)
are_option_words options lawful = go options.latency options.buffered lawful.latency lawful.buffered
  where
    go : (latency buffered : Option ℕ) → is_latency latency ≡ true → is_buffered buffered ≡ true → AreWords (latency_words latency ++ buffered_words buffered)
    go None None a b = tt
    go None (Some count) a b = (buffered_is count b, tt)
    go (Some time) None a b = (latency_is time a, tt)
    go (Some time) (Some count) a b = (latency_is time a, (buffered_is count b, tt))

-- ---- how the words are read

abbrev with : Option ℕ → Option ℕ → LinkOptions
with latency buffered = record { latency = latency; buffered = buffered }

cut_word : (options : LinkOptions) (name value : List ℕ) → list_any is_equals name ≡ false → option_in options (name ++ 61 ∷ value) ≡ option_named options name value
cut_word options name value clear =
    rw (any-middle is_equals name 61 value refl, before_first-at is_equals name 61 value clear refl, after_first-at is_equals name 61 value clear refl) refl

latency_read : (time : ℕ) → is_latency (Some time) ≡ true → option_in no_options (codes "latency=" ++ canonical_time time) ≡ Some (with (Some time) None)
latency_read time fits = cut_word no_options (codes "latency") (canonical_time time) refl ∙ rw (time_read time (leb-true time greatest_time fits)) refl

count_read : (count : ℕ) → is_buffered (Some count) ≡ true → count_up_to most_buffered (decimal count) ≡ Some count
unfolding count_up_to
count_read count fits =
    let top = count_top count fits in
    let numeral = decimal_is_IsNumeral count (omega (arith, top.1)) in
    let is : is_count (decimal count) ≡ true = and_from _ _ (le-leb 1 _ (omega (arith, numeral.0.0))) (are_ascii_digits (decimal count) numeral.0.1) in
    rw (is, numeral.1, le-leb count most_buffered top.1) refl

buffered_read : (latency : Option ℕ) (count : ℕ) → is_buffered (Some count) ≡ true → option_in (with latency None) (codes "buffered=" ++ decimal count) ≡ Some (with latency (Some count))
buffered_read latency count fits =
    cut_word (with latency None) (codes "buffered") (decimal count) refl
    ∙ rw (count_read count fits, le-leb 1 count (count_top count fits).0) refl

words_read : (options : LinkOptions) → LawfulOptions options → options_in_turn no_options (option_words options) ≡ Some options
words_read options lawful = go options.latency options.buffered lawful.latency lawful.buffered
  where
    go : (latency buffered : Option ℕ) → is_latency latency ≡ true → is_buffered buffered ≡ true → options_in_turn no_options (latency_words latency ++ buffered_words buffered) ≡ Some (with latency buffered)
    go None None a b = refl
    go None (Some count) a b = rw (buffered_read None count b) refl
    go (Some time) None a b = rw (latency_read time a) refl
    go (Some time) (Some count) a b = rw (latency_read time a, buffered_read (Some time) count b) refl

-- a text of these words states these options
pub options_read : (options : LinkOptions) (text : List ℕ) → LawfulOptions options → words text ≡ option_words options → options_in text ≡ Some options
unfolding options_in
options_read options text lawful same = rw same (words_read options lawful)
