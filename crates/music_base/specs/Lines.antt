-- The ends of lines.
use Rattle.std.specs.Prelude.{ℕ, List, [], ◌∷◌, ◌++◌}

-- LF, which ends a line
abbrev pub line_end : ℕ
line_end = 10

-- a line with its end
abbrev pub ended : List ℕ → List ℕ
ended line = line ++ line_end ∷ []
