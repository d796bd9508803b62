-- What one word spells lies within the limits.
use Rattle.std.proofs.Common.{◌≡◌, ℕ, zero, suc, ◌+◌, ◌*◌, ◌^◌, ◌<◌, Bool, true, false, List, refl, arith}
use Rattle.std.specs.Prelude.{IfSome, nat_le, ℤ}
use Rattle.std.specs.List.{before_first, after_first}
use Rattle.std.specs.Str.Parse.{digits_value, starts_with_minus, without_leading_sign}
use Rattle.std.proofs.lemmas.Bool.{le-leb}
use Rattle.music_base.specs.Names.{is_name, is_word}
use Rattle.music_base.specs.Counts.{count_up_to}
use Rattle.text_words.specs.Numbers.{with_sign, signed_within, is_decimal, whole, fraction, worth, millionths, without_minus, fixed, most_whole_digits, most_fraction_digits}
use Rattle.text_words.specs.Parts.{is_byte}
use Rattle.text_words.specs.OneWord.{name_in, time_in}
use Rattle.music_base.proofs.DigitValues.{digits_value-below}
use Rattle.text_words.proofs.Digits.{worth_below, whole_is_few, fraction_is_few}
use Rattle.app_scripts.specs.Forms.{index_word, shift_word, slash, scale_word, message_word}
use Rattle.scene_model.specs.Spellable.{is_index, is_time, lies_within, is_value, is_denominator}
use Rattle.text_words.proofs.Options.{IfSome-bind, IfSome-when, IfSome-map, count_up_to-is}
use Rattle.music_base.proofs.TimeRange.{result_ok-time_value}
use Rattle.scene_model.specs.Limits.{greatest_shift, greatest_numerator, greatest_denominator, greatest_index, greatest_value}

-- ---- counts and signs

within_is : (most n : ℕ) (negative : Bool) → nat_le n most ≡ true → lies_within most (with_sign negative n) ≡ true
within_is most n false is = is
within_is most zero true is = is
within_is most (suc n) true is = is

signed_is : (most : ℕ) (text : List ℕ) → IfSome (signed_within most text) (λ z. lies_within most z ≡ true)
unfolding signed_within
signed_is most text =
    IfSome-map (λ n. nat_le n most ≡ true) (λ z. lies_within most z ≡ true) (with_sign (starts_with_minus text)) (count_up_to most (without_leading_sign text))
    (count_up_to-is most (without_leading_sign text)) (λ n is. within_is most n (starts_with_minus text) is)

-- ---- values

millionths_is : (text : List ℕ) → IfSome (millionths text) (λ n. nat_le n greatest_value ≡ true)
unfolding millionths
millionths_is text =
    IfSome-when (λ n. nat_le n greatest_value ≡ true) (digits_value 10 (whole text) * 10 ^ most_fraction_digits + worth (fraction text)) (is_decimal text) (λ is.
    let before = whole_is_few text is in
    let behind = fraction_is_few text is in
    let low : digits_value 10 (whole text) < 10 ^ most_whole_digits = digits_value-below most_whole_digits (whole text) before.0 before.1 in
    let high : worth (fraction text) < 10 ^ most_fraction_digits = worth_below (fraction text) behind.0 behind.1 in
    le-leb _ _ (omega (arith, low, high)))

pub fixed_is : (text : List ℕ) → IfSome (fixed text) (λ v. is_value v ≡ true)
unfolding fixed
fixed_is text =
    IfSome-map (λ n. nat_le n greatest_value ≡ true) (λ v. is_value v ≡ true) (with_sign (starts_with_minus text)) (millionths (without_minus text))
    (millionths_is (without_minus text)) (λ n is. within_is greatest_value n (starts_with_minus text) is)

-- ---- words

pub name_is : (word : List ℕ) → IfSome (name_in word) (λ name. is_name name ≡ true)
name_is word = IfSome-when (λ name. is_name name ≡ true) word (is_name word) (λ is. is)

pub message_is : (word : List ℕ) → IfSome (message_word word) (λ message. is_word message ≡ true)
unfolding message_word
message_is word = IfSome-when (λ message. is_word message ≡ true) word (is_word word) (λ is. is)

pub index_is : (word : List ℕ) → IfSome (index_word word) (λ index. is_index index ≡ true)
unfolding index_word
index_is word = count_up_to-is greatest_index word

pub time_is : (word : List ℕ) → IfSome (time_in word) (λ time. is_time time ≡ true)
time_is word = result_ok-time_value word

pub shift_is : (word : List ℕ) → IfSome (shift_word word) (λ shift. lies_within greatest_shift shift ≡ true)
unfolding shift_word
shift_is word = signed_is greatest_shift word

abbrev pub IsScale : ℤ × ℕ → Type 0
IsScale scale = (lies_within greatest_numerator scale.0 ≡ true) × (is_denominator scale.1 ≡ true)

pub scale_is : (word : List ℕ) → IfSome (scale_word word) IsScale
unfolding scale_word
scale_is word =
    IfSome-bind (λ n. lies_within greatest_numerator n ≡ true) IsScale _ _ (signed_is greatest_numerator (before_first (is_byte slash) word)) (λ n near.
    IfSome-bind (λ m. nat_le m greatest_denominator ≡ true) IsScale _ _ (count_up_to-is greatest_denominator (after_first (is_byte slash) word)) (λ m few.
    IfSome-when IsScale (n, m) (nat_le 1 m) (λ some. (near, rw (some, few) refl))))
