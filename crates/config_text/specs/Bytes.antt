-- The bytes that mean something in the text, by name.
use Rattle.std.specs.Prelude.{ℕ, Bool, ◌||◌, ◌==◌, List, codes}
use Rattle.std.specs.Int.{is_in_range}
use Rattle.music_base.specs.Blanks.{tab}

abbrev pub carriage_return : ℕ
carriage_return = 13

-- '"'
abbrev pub quote : ℕ
quote = 34

-- '#'
abbrev pub comment_sign : ℕ
comment_sign = 35

-- '='
abbrev pub equals : ℕ
equals = 61

-- '['
abbrev pub open_bracket : ℕ
open_bracket = 91

-- ']'
abbrev pub close_bracket : ℕ
close_bracket = 93

-- "->", behind the sender of a connection
abbrev pub arrow : List ℕ
arrow = codes "->"

-- "<-", behind the receiver of a connection
abbrev pub back_arrow : List ℕ
back_arrow = codes "<-"

abbrev pub is_quote : ℕ → Bool
is_quote b = b == quote

abbrev pub is_comment_sign : ℕ → Bool
is_comment_sign b = b == comment_sign

abbrev pub is_equals : ℕ → Bool
is_equals b = b == equals

abbrev pub is_open_bracket : ℕ → Bool
is_open_bracket b = b == open_bracket

abbrev pub is_close_bracket : ℕ → Bool
is_close_bracket b = b == close_bracket

-- a tab, or 0x20 to 0x7E: what may stand outside a comment
abbrev pub is_text_byte : ℕ → Bool
is_text_byte b = (b == tab) || is_in_range 32 126 b
