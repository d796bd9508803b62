-- The choice of one limit, where the waits that count are given.
use Rattle.std.specs.Prelude.{◌≡◌, ◌≤◌, ◌<◌, ℕ, Option, None, Some, List, [], ◌∷◌, ◌++◌, length, slice_index}
use Rattle.scene_model.specs.Cover.{AllCovered, AreAmong, HasUncovered}
use Rattle.scene_model.specs.Waits.{greatest_limit, room_wait, stated}
use Rattle.scene_model.specs.declared.scene.Scene.{Scene}
use Rattle.scene_model.specs.declared.wait.Wait.{Wait}

-- m is the least with which every cycle of these waits and of the connection's wait for room is covered
pub record IsLeastAt (scene : Scene) (all : List Wait) (c m : ℕ) : Type 0 where
  pub some : 1 ≤ m
  pub covered : AllCovered (all ++ room_wait scene c m ∷ [])
  pub least : (less : ℕ) → 1 ≤ less → less < m → HasUncovered (all ++ room_wait scene c less ∷ [])

-- the limit that the connection states, or the least
abbrev pub IsChosen : Scene → List Wait → ℕ → Option ℕ → ℕ → Type 0
IsChosen scene all c (Some given) m = m ≡ given
IsChosen scene all c None m = IsLeastAt scene all c m

-- the wait for room that counts once m is chosen. That of a stated limit counts before
abbrev pub room_chosen : Scene → ℕ → Option ℕ → ℕ → List Wait
room_chosen scene c (Some given) m = []
room_chosen scene c None m = room_wait scene c m ∷ []

-- a limit that is not stated is below the greatest
abbrev pub IsBelowUnless : Option ℕ → ℕ → Type 0
IsBelowUnless (Some given) m = Unit {0}
IsBelowUnless None m = m < greatest_limit

-- and so is each of the scene that no end states
abbrev pub HasChosenBelow : Scene → List ℕ → Type 0
HasChosenBelow scene limits = (c : ℕ) → c < length limits → IsBelowUnless (stated scene c) (slice_index limits c)

-- the same waits, in whatever order and however often
pub record AreSame (some others : List Wait) : Type 0 where
  pub among : AreAmong others some
  pub contained : AreAmong some others
