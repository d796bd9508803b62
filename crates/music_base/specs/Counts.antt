-- Decimal digits, and the numbers that they write.
use Rattle.std.specs.Prelude.{ℕ, Bool, ◌&&◌, nat_le, if◌then◌else◌, List, length, Option, Some, None}
use Rattle.std.specs.List.{list_all}
use Rattle.std.specs.Char.{is_ascii_digit}
use Rattle.std.specs.Str.Parse.{digits_value}

-- a COUNT: one decimal digit or more; leading zeros are accepted
abbrev pub is_count : List ℕ → Bool
is_count text = nat_le 1 (length text) && list_all is_ascii_digit text

-- a COUNT of at most so many digits
abbrev pub is_short_count : ℕ → List ℕ → Bool
is_short_count most text = is_count text && nat_le (length text) most

-- the number of a COUNT that is at most so much
unfoldable pub count_up_to : ℕ → List ℕ → Option ℕ
count_up_to most text = if is_count text && nat_le (digits_value 10 text) most then Some (digits_value 10 text) else None
