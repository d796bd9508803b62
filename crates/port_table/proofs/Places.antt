-- An element has a place where some element passes the test.
use Rattle.std.proofs.Common.{◌≡◌, ℕ, Bool, true, false, List, length, refl, ◌∙◌}
use Rattle.std.specs.Prelude.{Some, None, is_some, nat_lt, if◌then◌else◌}
use Rattle.std.specs.List.{list_any, position, position_or_len}
use Rattle.music_base.proofs.FirstPlaces.{is_found}

some_where : (found : Bool) (place : ℕ) → is_some (if found then Some place else None) ≡ found
some_where true place = refl
some_where false place = refl

pub somewhere : (p : ℕ → Bool) (xs : List ℕ) → is_some (position p xs) ≡ list_any p xs
somewhere p xs = some_where (nat_lt (position_or_len p xs) (length xs)) (position_or_len p xs) ∙ is_found p xs
