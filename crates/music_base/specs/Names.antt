-- Names, and the words of messages.
use Rattle.std.specs.Prelude.{ℕ, Bool, ◌&&◌, ◌||◌, ◌==◌, nat_le, List, length, slice_index}
use Rattle.std.specs.Char.{is_ascii_alphabetic, is_ascii_alphanumeric}
use Rattle.std.specs.List.{list_all}

-- '_'
abbrev pub underscore : ℕ
underscore = 95

-- a letter or '_'
abbrev pub begins_name : ℕ → Bool
begins_name b = is_ascii_alphabetic b || (b == underscore)

-- a letter, a digit or '_'
abbrev pub is_in_names : ℕ → Bool
is_in_names b = is_ascii_alphanumeric b || (b == underscore)

-- a name: 1 to 64 letters, digits and '_', of which the first is no digit
abbrev pub is_name : List ℕ → Bool
is_name bytes = nat_le 1 (length bytes) && nat_le (length bytes) 64
    && begins_name (slice_index bytes 0) && list_all is_in_names bytes

-- '-' and '.'
abbrev pub dash : ℕ
dash = 45

abbrev pub dot : ℕ
dot = 46

-- a letter, a digit, '_', '-' or '.'
abbrev pub is_in_words : ℕ → Bool
is_in_words b = is_in_names b || (b == dash) || (b == dot)

-- the word of a message: 1 to 64 letters, digits, '_', '-' and '.'
abbrev pub is_word : List ℕ → Bool
is_word bytes = nat_le 1 (length bytes) && nat_le (length bytes) 64 && list_all is_in_words bytes
