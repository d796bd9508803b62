-- Times as text: a decimal number of seconds, and the nanoseconds that it stands for.
use Rattle.std.specs.Prelude.{zero, suc, ◌-◌, [], ◌∷◌, take, ℕ, ◌+◌, ◌*◌, ◌/◌, ◌%◌, ◌^◌, Bool, true, ◌&&◌, ◌||◌, nat_lt, nat_le, ◌==◌, if◌then◌else◌, List, ◌++◌, length, Result, Ok, Err}
use Rattle.std.specs.List.{before_first, after_first, list_any, list_all, suffix_len}
use Rattle.std.specs.Fmt.{decimal}
use Rattle.std.specs.Char.{is_ascii_digit}
use Rattle.std.specs.Str.Parse.{digits_value, starts_with_minus, without_leading_sign}
use Rattle.music_base.specs.Counts.{is_short_count}
use Rattle.music_base.specs.declared.limits.TheConstants.{GREATEST_TIME}
use Rattle.music_base.specs.declared.times.TimeFault.{TimeFault}
use Rattle.music_base.specs.declared.times.TimeFault.TheVariants.{Spelling, NotWhole, Range}

-- '.', '+' and '-'
abbrev pub point : ℕ
point = 46

abbrev pub plus : ℕ
plus = 43

abbrev pub minus : ℕ
minus = 45

-- the marks of an exponent, 'e' and 'E'
abbrev pub small_mark : ℕ
small_mark = 101

abbrev pub large_mark : ℕ
large_mark = 69

abbrev pub is_point : ℕ → Bool
is_point b = b == point

abbrev pub is_exponent_mark : ℕ → Bool
is_exponent_mark b = (b == small_mark) || (b == large_mark)

-- a second has ten to this power of nanoseconds
abbrev pub nano_places : ℕ
nano_places = 9

-- the greatest time that is read, in nanoseconds
abbrev pub greatest_time : ℕ
greatest_time = GREATEST_TIME

-- how many bytes a time text has at most
abbrev pub longest_time_text : ℕ
longest_time_text = 30

-- ---- the parts of a time text

-- what stands before the mark of the exponent
abbrev pub mantissa : List ℕ → List ℕ
mantissa text = before_first is_exponent_mark text

-- what stands after the mark of the exponent, nothing where there is no mark
abbrev pub exponent : List ℕ → List ℕ
exponent text = after_first is_exponent_mark text

-- the digits before the point
abbrev pub whole : List ℕ → List ℕ
whole text = before_first is_point (mantissa text)

-- the digits after the point, none where there is no point
abbrev pub fraction : List ℕ → List ℕ
fraction text = after_first is_point (mantissa text)

-- an optional sign, and one to three digits
abbrev pub is_exponent : List ℕ → Bool
is_exponent bytes = is_short_count 3 (without_leading_sign bytes)

-- where there is a mark, an exponent stands behind it
abbrev pub has_good_exponent : List ℕ → Bool
has_good_exponent text = if list_any is_exponent_mark text then is_exponent (exponent text) else true

-- Digits, optionally a point and digits, and optionally a mark and an exponent; not too long, and with a digit
-- before the exponent.
abbrev pub is_time_text : List ℕ → Bool
is_time_text text = nat_le (length text) longest_time_text
    && list_all is_ascii_digit (whole text) && list_all is_ascii_digit (fraction text)
    && nat_lt 0 (length (whole text) + length (fraction text))
    && has_good_exponent text

-- ---- its value

-- the number of all digits before the exponent
abbrev pub digits_of : List ℕ → ℕ
digits_of text = digits_value 10 (whole text ++ fraction text)

-- how far the exponent moves the point, to either side
abbrev pub exponent_size : List ℕ → ℕ
exponent_size text = digits_value 10 (without_leading_sign (exponent text))

-- how many tens the digits are multiplied by: those of a second, and those of an exponent without '-'
abbrev pub raised : List ℕ → ℕ
raised text = nano_places + (if starts_with_minus (exponent text) then 0 else exponent_size text)

-- how many tens they are divided by: one for each digit after the point, and those of an exponent with '-'
abbrev pub lowered : List ℕ → ℕ
lowered text = length (fraction text) + (if starts_with_minus (exponent text) then exponent_size text else 0)

-- so many nanoseconds, where no time is greater
abbrev pub in_range : ℕ → Result ℕ TimeFault
in_range nanos = if nat_le nanos greatest_time then Ok nanos else Err Range

-- digits * 10 ^ up / 10 ^ down nanoseconds, where that is a whole number
unfoldable pub scaled : ℕ → ℕ → ℕ → Result ℕ TimeFault
scaled digits up down = if (digits * 10 ^ up) % 10 ^ down == 0 then in_range ((digits * 10 ^ up) / 10 ^ down) else Err NotWhole

-- the time that a text spells, in nanoseconds, or the first reason why it is none
unfoldable pub time_value : List ℕ → Result ℕ TimeFault
time_value text = if is_time_text text then scaled (digits_of text) (raised text) (lowered text) else Err Spelling

-- ---- the canonical spelling

-- '0'
abbrev pub zero_digit : ℕ
zero_digit = 48

-- the lowest k digits of n
abbrev pub lowest_digits : ℕ → ℕ → List ℕ
lowest_digits zero n = []
lowest_digits (suc k) n = lowest_digits k (n / 10) ++ (zero_digit + n % 10) ∷ []

abbrev pub without_trailing_zeros : List ℕ → List ℕ
without_trailing_zeros digits = take (length digits - suffix_len (λ b. b == zero_digit) digits) digits

-- a point and the digits of the nanoseconds, nothing where there are none
abbrev pub nanos_text : ℕ → List ℕ
nanos_text nanos = if nanos == 0 then [] else point ∷ without_trailing_zeros (lowest_digits nano_places nanos)

-- the whole seconds without leading zeros, and what remains of the time behind a point
unfoldable pub canonical_time : ℕ → List ℕ
canonical_time time = decimal (time / 10 ^ nano_places) ++ nanos_text (time % 10 ^ nano_places)
