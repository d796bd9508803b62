-- The small numbers that words spell, besides a COUNT.
use Rattle.std.specs.Prelude.{ℕ, ◌+◌, ◌-◌, ◌*◌, ◌^◌, Bool, true, ◌&&◌, if◌then◌else◌, List, length, drop, Option, Some, None, option_map, ℤ, pos, neg_ℤ}
use Rattle.std.specs.List.{list_any, before_first, after_first}
use Rattle.std.specs.Str.Parse.{digits_value, starts_with_minus, without_leading_sign}
use Rattle.music_base.specs.Counts.{is_short_count, count_up_to}
use Rattle.music_base.specs.Times.{is_point}

-- ---- SIGNED

-- the number, below zero where a '-' stands in front
abbrev pub with_sign : Bool → ℕ → ℤ
with_sign negative n = if negative then neg_ℤ (pos n) else pos n

-- an optional '+' or '-' and a COUNT, within so much of zero
unfoldable pub signed_within : ℕ → List ℕ → Option ℤ
signed_within most text = option_map (with_sign (starts_with_minus text)) (count_up_to most (without_leading_sign text))

-- ---- FIXED

-- how many digits stand at most before the point, and after it
abbrev pub most_whole_digits : ℕ
most_whole_digits = 12

abbrev pub most_fraction_digits : ℕ
most_fraction_digits = 6

-- what stands before the point, and what stands after it, nothing where there is no point
abbrev pub whole : List ℕ → List ℕ
whole text = before_first is_point text

abbrev pub fraction : List ℕ → List ℕ
fraction text = after_first is_point text

-- where there is a point, digits stand after it
abbrev pub has_good_fraction : List ℕ → Bool
has_good_fraction text = if list_any is_point text then is_short_count most_fraction_digits (fraction text) else true

-- digits, and optionally a point and digits
abbrev pub is_decimal : List ℕ → Bool
is_decimal text = is_short_count most_whole_digits (whole text) && has_good_fraction text

-- what digits after the point are worth, in millionths
abbrev pub worth : List ℕ → ℕ
worth digits = digits_value 10 digits * 10 ^ (most_fraction_digits - length digits)

-- a decimal number without a sign, in millionths
unfoldable pub millionths : List ℕ → Option ℕ
millionths text = if is_decimal text then Some (digits_value 10 (whole text) * 10 ^ most_fraction_digits + worth (fraction text)) else None

-- what stands behind a '-' in front
abbrev pub without_minus : List ℕ → List ℕ
without_minus text = if starts_with_minus text then drop 1 text else text

-- an optional '-' and a decimal number, in millionths
unfoldable pub fixed : List ℕ → Option ℤ
fixed text = option_map (with_sign (starts_with_minus text)) (millionths (without_minus text))
