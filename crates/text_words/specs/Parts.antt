-- A word, cut at a byte.
use Rattle.std.specs.Prelude.{ℕ, Bool, ◌==◌, List, [], Option, Some, None, if◌then◌else◌, ◌∷◌}
use Rattle.std.specs.List.{slice_split}
use Rattle.text_words.specs.Words.{is_some_list}

abbrev pub is_byte : ℕ → ℕ → Bool
is_byte byte b = b == byte

-- the parts between such bytes, of which there is always one; a part may be empty
abbrev pub parts : ℕ → List ℕ → List (List ℕ)
parts byte text = slice_split (is_byte byte) text

-- the parts of what is left behind such a byte, none where there was no such byte
abbrev pub parts_left : ℕ → Option (List ℕ) → List (List ℕ)
parts_left byte None = []
parts_left byte (Some text) = parts byte text

-- the first in front of the others, where it has an element
abbrev pub with_some : {A : Type 0} → List A → List (List A) → List (List A)
with_some first others = if is_some_list first then first ∷ others else others
