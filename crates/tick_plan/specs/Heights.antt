-- The search for potentials: heights of applications, and the walks of waits that give them.
use Rattle.std.specs.Prelude.{◌≡◌, ◌≤◌, ◌<◌, ◌-◌, ◌==◌, ℕ, ℤ, pos, ◌+ℤ◌, ◌-ℤ◌, ◌*ℤ◌, ◌≤ℤ◌, List, [], ◌∷◌, Vec, slice_index, slice_index_or, length, map, All, count_by, sum_by}
use Rattle.std.specs.declared.alloc.Global.{Global}
use Rattle.scene_model.specs.Cover.{IsWalk, AreAmong, AllCovered, IsWithin}
use Rattle.scene_model.specs.Limits.{most_apps}
use Rattle.scene_model.specs.declared.wait.Wait.{Wait}
use Rattle.tick_plan.specs.Bounds.{greatest_start, greatest_height}
use Rattle.tick_plan.specs.declared.search.Search.{Search}

-- ---- the height that a walk gives

-- how far a wait of n applications raises its waiter above the awaited one. With n times as much for each, and one
-- more, a cycle of at most n waits rises exactly where its allowances do not exceed its burdens
abbrev pub rise_of : ℕ → Wait → ℤ
rise_of n w = pos 1 -ℤ pos n *ℤ (w.allowance -ℤ w.burden)

-- how high application a lies by a walk on which each wait rises by f, from the height at which its last one starts
abbrev pub walk_height : (Wait → ℤ) → (ℕ → ℕ) → ℕ → List Wait → ℤ
walk_height f starts a [] = pos (starts a)
walk_height f starts a (w ∷ ws) = f w +ℤ walk_height f starts w.awaited ws

-- by no rest of the walk an application lies higher than it does now
abbrev pub RestsWithin : (Wait → ℤ) → (ℕ → ℕ) → (ℕ → ℕ) → ℕ → List Wait → Type 0
RestsWithin f starts heights a [] = starts a ≤ heights a
RestsWithin f starts heights a (w ∷ ws) =
    ((f w +ℤ walk_height f starts w.awaited ws) ≤ℤ pos (heights a)) × RestsWithin f starts heights w.awaited ws

-- how many waits of the list come to this application
abbrev pub comes_to : ℕ → List Wait → ℕ
comes_to a ws = count_by (λ (w : Wait). w.awaited == a) ws

-- the walk leads from application a, gives it its height, and comes to no application twice
pub record GivesHeight (f : Wait → ℤ) (starts heights : ℕ → ℕ) (all : List Wait) (a : ℕ) (ws : List Wait) : Type 0 where
  pub last : ℕ
  pub walk : IsWalk a ws last
  pub height : walk_height f starts a ws ≡ pos (heights a)
  pub rests : RestsWithin f starts heights a ws
  pub among : AreAmong all ws
  pub away : comes_to a ws ≡ 0
  pub once : (x : ℕ) → comes_to x ws ≤ 1

-- ---- the state of a search

-- each of n applications has its height by some walk
pub record HaveWalks (n : ℕ) (all : List Wait) (starts : ℕ → ℕ) (heights : List ℕ) : Type 0 where
  pub counted : length heights ≡ n
  pub starts_low : (v : ℕ) → starts v ≤ greatest_start
  pub starts_under : (v : ℕ) → starts v ≤ slice_index heights v
  pub given : (v : ℕ) → v < n → (ws : List Wait) × GivesHeight (rise_of n) starts (slice_index heights) all v ws

-- heights on their way up, by waits of which every cycle is covered
pub record IsRising (n : ℕ) (all : List Wait) (starts : ℕ → ℕ) (heights : List ℕ) : Type 0 where
  pub few : n ≤ most_apps
  pub within : All (IsWithin n) all
  pub covered : AllCovered all
  pub walks : HaveWalks n all starts heights

-- no application starts above 0
abbrev pub at_zero : ℕ → ℕ
at_zero v = 0

-- the walk that is kept for an application
abbrev pub walk_at : List (Vec Wait Global) → ℕ → List Wait
walk_at walks v = slice_index_or (map (λ (walk : Vec Wait Global). walk.items) walks) v []

-- each of n applications has its height by the walk that is kept for it
pub record AreGiven (n : ℕ) (all : List Wait) (heights : List ℕ) (walks : List (Vec Wait Global)) : Type 0 where
  pub heights_counted : length heights ≡ n
  pub walks_counted : length walks ≡ n
  pub given : (v : ℕ) → v < n → GivesHeight (rise_of n) at_zero (slice_index heights) all v (walk_at walks v)

abbrev pub IsSearch : ℕ → List Wait → Search → Type 0
IsSearch n all search = AreGiven n all search.heights.items search.walks.items

-- the wait raises its waiter no higher than it lies
pub record IsRelaxed (n : ℕ) (heights : List ℕ) (w : Wait) : Type 0 where
  pub relaxed : (rise_of n w +ℤ pos (slice_index heights w.awaited)) ≤ℤ pos (slice_index heights w.waiter)

-- how far the heights together lie below the greatest
abbrev pub gap_of : List ℕ → ℕ
gap_of heights = sum_by (λ h. greatest_height - h) heights
