-- The value of a setting, cut into pieces between ';', and each piece into words between blanks.
use Rattle.std.specs.Prelude.{ℕ, Bool, ◌==◌, nat_lt, List, length, map}
use Rattle.std.specs.List.{filter, slice_split}
use Rattle.music_base.specs.Blanks.{is_blank}

abbrev pub semicolon : ℕ
semicolon = 59

abbrev pub is_semicolon : ℕ → Bool
is_semicolon b = b == semicolon

-- the list has an element
abbrev pub is_some_list : {A : Type 0} → List A → Bool
is_some_list xs = nat_lt 0 (length xs)

-- the words of a piece; where it is blanks alone it has none
unfoldable pub words : List ℕ → List (List ℕ)
words piece = filter is_some_list (slice_split is_blank piece)

-- each piece that has a word, as its words; a piece of blanks alone is skipped
unfoldable pub declarations : List ℕ → List (List (List ℕ))
declarations text = filter is_some_list (map words (slice_split is_semicolon text))
