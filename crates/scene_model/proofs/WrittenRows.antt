-- The rows of a table whose words are words can be written.
use Rattle.std.proofs.Common.{◌≡◌, ℕ, ◌<◌, true, List, length, refl, ℤ}
use Rattle.std.specs.Prelude.{nat_lt, slice_index}
use Rattle.std.specs.List.{AllByRecursion, flat_map, list_all}
use Rattle.std.proofs.lemmas.Bool.{lt-ltb}
use Rattle.std.proofs.lemmas.List.Elements.{All-from_recursion}
use Rattle.std.proofs.lemmas.List.Sums.{list_all-from_AllPass}
use Rattle.music_base.specs.Numbers.{below}
use Rattle.music_base.specs.declared.item.Item.{Item}
use Rattle.music_base.specs.declared.item.Item.TheVariants.{Event, Value, Message}
use Rattle.music_base.proofs.Lists.{All-below, All-flat_map, All-flat_map_of, All-in_order, All-map, All-map_of, All-weaker}
use Rattle.index_maps.specs.Maps.{globals_of, rank_count}
use Rattle.scene_model.specs.Clocks.{clock, steps}
use Rattle.scene_model.specs.Logs.{arrived_at, has_word, is_writable, places_of, rank_items_by, rank_rows, read_at, row_cmp, rows, step_rows}
use Rattle.scene_model.specs.Scenes.{app_at, port_at}
use Rattle.scene_model.specs.Tables.{Table, arrivals, value}
use Rattle.scene_model.specs.declared.port.Direction.{Direction}
use Rattle.scene_model.specs.declared.port.Direction.TheVariants.{Output, Input}
use Rattle.scene_model.specs.declared.port.PortKind.{PortKind}
use Rattle.scene_model.specs.declared.port.PortKind.TheVariants.{Values}
use Rattle.scene_model.specs.declared.row.Row.{Row}
use Rattle.scene_model.specs.declared.row.RowItem.{RowItem}
use Rattle.scene_model.specs.declared.row.RowItem.TheVariants.{Event as EventRow, Value as ValueRow}
use Rattle.scene_model.specs.declared.scene.Scene.{Scene}
use Rattle.scene_model.proofs.WrittenLives.{HasWord, IsWrittenTable, arrivals_words}

HasRowWord : RowItem → Type 0
HasRowWord item = has_word item ≡ true

IsWritable : Scene → Row → Type 0
IsWritable scene row = is_writable scene row ≡ true

arrived_words : (globals : List ℕ) (item : Item) → HasWord item → AllByRecursion HasRowWord (arrived_at globals item)
unfolding HasRowWord
arrived_words globals (Event e) word =
    All-map_of HasRowWord (λ local. EventRow local e.global e.time) (λ local. refl) (places_of globals e.global)
arrived_words globals (Message said) word = (word, tt)
arrived_words globals (Value global value) word = tt

read_words : (globals : List ℕ) (reads : ℕ → ℤ) → AllByRecursion HasRowWord (read_at globals reads)
unfolding HasRowWord
read_words globals reads =
    let row : ℕ → RowItem = λ local. ValueRow local (slice_index globals local) (reads (slice_index globals local)) in
    All-map_of HasRowWord row (λ local. refl) (below (length globals))

row_is : (scene : Scene) (row : Row) → row.app < length scene.apps → row.port < length (app_at scene row.app).ports → HasRowWord row.item
    → IsWritable scene row
unfolding is_writable HasRowWord IsWritable
row_is scene row app port word =
    let one : nat_lt row.app (length scene.apps) ≡ true = lt-ltb _ _ app in
    let two : nat_lt row.port (length (app_at scene row.app).ports) ≡ true = lt-ltb _ _ port in
    rw (one, two, word) refl

module _ (scene : Scene) (table : Table) (written : IsWrittenTable table) where
  -- what arrives, at a rank
  arrivals_at : (b j p r : ℕ) → AllByRecursion HasRowWord (flat_map (arrived_at (globals_of (port_at scene b p).map r)) (arrivals scene table b p j))
  arrivals_at b j p r =
      let globals : List ℕ = globals_of (port_at scene b p).map r in
      All-flat_map HasRowWord (arrived_at globals) (arrivals scene table b p j) (All-weaker HasWord (λ item. AllByRecursion HasRowWord (arrived_at globals item))
      (arrived_words globals) (arrivals scene table b p j) (arrivals_words scene table written b p j))

  items_words : (b j p r : ℕ) (direction : Direction) (kind : PortKind) → AllByRecursion HasRowWord (rank_items_by direction kind scene table b j p r)
  items_words b j p r Output kind = tt
  items_words b j p r Input Values = read_words (globals_of (port_at scene b p).map r) (value scene table b p j)
  items_words b j p r Input kind = arrivals_at b j p r

  rank_is : (b j p r : ℕ) → b < length scene.apps → p < length (app_at scene b).ports → AllByRecursion (IsWritable scene) (rank_rows scene table b j p r)
  rank_is b j p r app port =
      let row_of : RowItem → Row = λ item. record { clock = clock scene b j; app = b; port = p; rank = r; item = item } in
      let items : List RowItem = rank_items_by (port_at scene b p).direction (port_at scene b p).kind scene table b j p r in
      All-map (IsWritable scene) row_of items (All-weaker HasRowWord (λ item. IsWritable scene (row_of item))
      (λ item word. row_is scene (row_of item) app port word) items (items_words b j p r (port_at scene b p).direction (port_at scene b p).kind))

  step_is : (b j : ℕ) → b < length scene.apps → AllByRecursion (IsWritable scene) (step_rows scene table b j)
  unfolding step_rows
  step_is b j app =
      let of_port : ℕ → List Row = λ p. flat_map (rank_rows scene table b j p) (below (rank_count (port_at scene b p).map)) in
      All-flat_map (IsWritable scene) of_port (below (length (app_at scene b).ports))
      (All-below (λ p. AllByRecursion (IsWritable scene) (of_port p)) (length (app_at scene b).ports) (λ p port.
      All-flat_map_of (IsWritable scene) (rank_rows scene table b j p) (λ r. rank_is b j p r app port) (below (rank_count (port_at scene b p).map))))

  pub rows_writable : list_all (is_writable scene) (rows scene table) ≡ true
  unfolding rows IsWritable
  rows_writable =
      let of_app : ℕ → List Row = λ b. flat_map (step_rows scene table b) (below (steps scene b)) in
      let all : AllByRecursion (IsWritable scene) (rows scene table) =
      All-in_order (IsWritable scene) row_cmp (flat_map of_app (below (length scene.apps)))
      (All-flat_map (IsWritable scene) of_app (below (length scene.apps)) (All-below (λ b. AllByRecursion (IsWritable scene) (of_app b)) (length scene.apps) (λ b app.
      All-flat_map_of (IsWritable scene) (step_rows scene table b) (λ j. step_is b j app) (below (steps scene b))))) in
      list_all-from_AllPass (is_writable scene) (rows scene table) (All-from_recursion (IsWritable scene) (rows scene table) all)
