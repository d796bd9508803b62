-- Lists in which an index comes twice.
use Rattle.std.specs.Prelude.{◌≡◌, ⊤, ℕ, ◌==◌, if◌then◌else◌, List, [], ◌∷◌, ◌++◌, Option, Some, None}
use Rattle.std.specs.List.{list_any}
use Rattle.index_maps.specs.declared.permuting.MapFault.{MapFault}
use Rattle.index_maps.specs.declared.permuting.MapFault.TheVariants.{Repeated, Memory}

-- the first entry that equals one that was seen, or an earlier one
abbrev pub repeat_behind : List ℕ → List ℕ → Option ℕ
repeat_behind seen [] = None
repeat_behind seen (x ∷ xs) = if list_any (λ i. i == x) seen then Some x else repeat_behind (seen ++ x ∷ []) xs

-- the first entry that equals an earlier one
unfoldable pub first_repeat : List ℕ → Option ℕ
first_repeat list = repeat_behind [] list

-- the fault names this repeat; nothing is said of want of memory
abbrev pub IsRepeatOf : Option ℕ → MapFault → Type 0
IsRepeatOf repeat (Repeated index) = repeat ≡ Some index
IsRepeatOf repeat Memory = ⊤
