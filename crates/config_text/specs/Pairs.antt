-- Settings and sections as lists of pairs.
use Rattle.std.specs.Prelude.{ℕ, Bool, true, not, ◌&&◌, ◌==◌, List, [], ◌∷◌, ◌++◌, Option, Some, None}
use Rattle.std.specs.Cmp.Lexicographic.{pointwise}
use Rattle.std.specs.List.{list_any}
use Rattle.std.specs.Map.{lookup}

-- names and values, in the order of the text
abbrev pub SettingList : Type 0
SettingList = List (List ℕ × List ℕ)

-- names and settings, in the order of the text
abbrev pub SectionList : Type 0
SectionList = List (List ℕ × SettingList)

-- whether two names are the same bytes
abbrev pub same_name : List ℕ → List ℕ → Bool
same_name a b = pointwise ◌==◌ a b

-- what stands beside the name
abbrev pub value_of : {X : Type 0} → List (List ℕ × X) → List ℕ → Option X
value_of pairs name = lookup (same_name name) pairs

-- what stands beside the last name
abbrev pub last_value : {X : Type 0} → List (List ℕ × X) → Option X
last_value [] = None
last_value (pair ∷ []) = Some pair.1
last_value (pair ∷ next ∷ pairs) = last_value (next ∷ pairs)

-- no name is that of an earlier pair
abbrev pub has_own_keys : {X : Type 0} → List (List ℕ × X) → Bool
has_own_keys [] = true
has_own_keys (pair ∷ pairs) = not (list_any (λ other. same_name other.0 pair.0) pairs) && has_own_keys pairs

-- with one more setting in the last section
abbrev pub onto_last : List ℕ × List ℕ → SectionList → SectionList
onto_last setting [] = []
onto_last setting (last ∷ []) = (last.0, last.1 ++ setting ∷ []) ∷ []
onto_last setting (first ∷ next ∷ others) = first ∷ onto_last setting (next ∷ others)
