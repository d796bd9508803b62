-- Rows that are held, application by application, until none can come before them.
use Rattle.std.specs.Prelude.{◌≡◌, ◌<◌, ◌≤◌, ℕ, Bool, true, false, not, nat_le, nat_lt, min, List, [], ◌∷◌, ◌++◌, map, length, slice_index_or, Option, None, Some}
use Rattle.std.specs.List.{AllByRecursion, filter, flat_map}
use Rattle.std.specs.Ordering.{is_gt}
use Rattle.std.specs.declared.cmp.Ordering.{Ordering}
use Rattle.music_base.specs.Numbers.{in_order}
use Rattle.scene_model.specs.Logs.{row_cmp}
use Rattle.scene_model.specs.declared.row.Row.{Row}

-- what is held of each application, and how many more lists of rows can be admitted without any memory
pub record HeldRows : Type 0 where
  pub held : List (List Row)
  pub spare : ℕ

-- the same of one application
pub record QueuedRows : Type 0 where
  pub rows : List Row
  pub spare : ℕ

-- the rows that queues hold
abbrev pub held_by : List QueuedRows → List (List Row)
held_by queues = map (λ queue. queue.rows) queues

-- the rows that are held of application b
abbrev pub rows_of : List (List Row) → ℕ → List Row
rows_of held b = slice_index_or held b []

-- whether a row has a clock below `least`, and whether it has not
abbrev pub is_before : ℕ → Row → Bool
is_before least row = nat_lt row.clock least

abbrev pub is_kept : ℕ → Row → Bool
is_kept least row = not (is_before least row)

-- none of ys comes before x
abbrev pub NoneBefore : {X : Type 0} → (X → X → Ordering) → List X → X → Type 0
NoneBefore cmp ys x = AllByRecursion (λ y. is_gt (cmp x y) ≡ false) ys

-- no element comes after a later one
abbrev pub StandInOrder : {X : Type 0} → (X → X → Ordering) → List X → Type 0
StandInOrder cmp [] = Unit {0}
StandInOrder cmp (x ∷ xs) = NoneBefore cmp xs x × StandInOrder cmp xs

-- rows of application b, in row order
pub record AreRowsOf (b : ℕ) (rows : List Row) : Type 0 where
  pub own : AllByRecursion (λ row. row.app ≡ b) rows
  pub order : StandInOrder row_cmp rows

-- queues of which each has room for so many lists of rows more, and the rows of its application
pub record AreQueues (spare : ℕ) (queues : List QueuedRows) : Type 0 where
  pub room : AllByRecursion (λ queue. spare ≤ queue.spare) queues
  pub rows : (b : ℕ) → AreRowsOf b (rows_of (held_by queues) b)

-- all rows have this clock, and each list has some row
abbrev pub HaveClock : ℕ → List Row → Type 0
HaveClock clock rows = AllByRecursion (λ row. row.clock ≡ clock) rows

abbrev pub HaveRows : List (List Row) → Type 0
HaveRows lists = AllByRecursion (λ rows. 0 < length rows) lists

-- ---- clock by clock

-- the clock of the first row
abbrev pub first_clock : List Row → Option ℕ
first_clock [] = None
first_clock (row ∷ rows) = Some row.clock

-- whether the first row, if there is one, has at least this clock
abbrev pub begins_from : ℕ → List Row → Bool
begins_from clock [] = true
begins_from clock (row ∷ rows) = nat_le clock row.clock

-- the lower of a bound and a clock, if there is one
abbrev pub lower_of : ℕ → Option ℕ → ℕ
lower_of bound None = bound
lower_of bound (Some clock) = min bound clock

-- the least clock of the first rows of all applications, or the bound where none is lower
abbrev pub least_front : ℕ → List (List Row) → ℕ
least_front bound [] = bound
least_front bound (rows ∷ held) = least_front (lower_of bound (first_clock rows)) held

-- rows of this clock, perhaps none, went from the front of `old`, which leaves `new`, to the end of `before`, which gives
-- `after`
pub record AreMoved (clock : ℕ) (old new before after : List Row) : Type 0 where
  pub step : List Row
  pub same : HaveClock clock step
  pub split : old ≡ step ++ new
  pub moved : after ≡ before ++ step

-- Rows with clocks below `least` went from what was held to the end of what was released: with those that are left of
-- them, in row order, this gives what it gave before, and the rows to be kept are still held.
pub record AreMergedOn (least : ℕ) (old new : List (List Row)) (before after : List Row) : Type 0 where
  pub released : after ++ in_order row_cmp (flat_map (filter (is_before least)) new) ≡ before ++ in_order row_cmp (flat_map (filter (is_before least)) old)
  pub kept : map (filter (is_kept least)) new ≡ map (filter (is_kept least)) old
