-- The lines of a text.
use Rattle.std.specs.Prelude.{ℕ, Bool, ◌==◌, if◌then◌else◌, List, [], ◌∷◌}
use Rattle.std.specs.List.{onto_first}
use Rattle.music_base.specs.Lines.{line_end}

abbrev pub is_line_end : ℕ → Bool
is_line_end b = b == line_end

-- the text cut at each LF; a last piece with no LF is a line where it is not empty
unfoldable pub raw_lines : List ℕ → List (List ℕ)
raw_lines [] = []
raw_lines (b ∷ bytes) = if is_line_end b then [] ∷ raw_lines bytes else onto_first b (raw_lines bytes)

-- how many bytes a text may have
abbrev pub longest_text : ℕ
longest_text = 1048576
