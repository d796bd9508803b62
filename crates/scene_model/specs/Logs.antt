-- The rows of a table, and the log of a scene.
use Rattle.std.specs.Prelude.{ℕ, Bool, true, ◌&&◌, ◌==◌, nat_lt, List, [], ◌∷◌, ◌++◌, map, length, slice_index, slice_index_or, ℤ, codes}
use Rattle.std.specs.List.{filter, flat_map, join_with_byte}
use Rattle.std.specs.declared.cmp.Ordering.{Ordering}
use Rattle.std.specs.Ordering.{ordering_then, nat_cmp}
use Rattle.std.specs.Fmt.{decimal, signed_decimal}
use Rattle.music_base.specs.Lines.{ended}
use Rattle.music_base.specs.Names.{is_word}
use Rattle.music_base.specs.Numbers.{below, in_order}
use Rattle.music_base.specs.declared.item.Item.{Item}
use Rattle.music_base.specs.declared.item.Item.TheVariants.{Event, Value, Message}
use Rattle.index_maps.specs.Maps.{globals_of, rank_count}
use Rattle.scene_model.specs.Scenes.{app_at, port_at}
use Rattle.scene_model.specs.Clocks.{steps, clock}
use Rattle.scene_model.specs.Tables.{StepOutput, Table, arrivals, value, value_in}
use Rattle.scene_model.specs.Lives.{history}
use Rattle.scene_model.specs.declared.scene.Scene.{Scene}
use Rattle.scene_model.specs.declared.row.Row.{Row}
use Rattle.scene_model.specs.declared.row.RowItem.{RowItem}
use Rattle.scene_model.specs.declared.row.RowItem.TheVariants.{Event as EventRow, Value as ValueRow, Message as MessageRow}
use Rattle.scene_model.specs.declared.port.PortKind.{PortKind}
use Rattle.scene_model.specs.declared.port.PortKind.TheVariants.{Values}
use Rattle.scene_model.specs.declared.port.Direction.{Direction}
use Rattle.scene_model.specs.declared.port.Direction.TheVariants.{Output, Input}

-- ---- the rows of a step

-- the local places that an index has at a rank: one, or none where the rank does not map it
abbrev pub places_of : List ℕ → ℕ → List ℕ
places_of globals g = filter (λ local. slice_index globals local == g) (below (length globals))

-- an arrival at a rank that maps these indices: an event at its local place, and a message at every rank
abbrev pub arrived_at : List ℕ → Item → List RowItem
arrived_at globals (Event e) = map (λ local. EventRow local e.global e.time) (places_of globals e.global)
arrived_at globals (Message m) = MessageRow m.time m.word ∷ []
arrived_at globals (Value global value) = []

-- the values that are read at such a rank, one at each local place
abbrev pub read_at : List ℕ → (ℕ → ℤ) → List RowItem
read_at globals reads = map (λ local. ValueRow local (slice_index globals local) (reads (slice_index globals local))) (below (length globals))

-- what rank r of port p of application b gets in step j: its part of the arrivals, in their order, or its values by
-- local place
abbrev pub rank_items_by : Direction → PortKind → Scene → Table → ℕ → ℕ → ℕ → ℕ → List RowItem
rank_items_by Output kind scene table b j p r = []
rank_items_by Input Values scene table b j p r = read_at (globals_of (port_at scene b p).map r) (value scene table b p j)
rank_items_by Input _ scene table b j p r = flat_map (arrived_at (globals_of (port_at scene b p).map r)) (arrivals scene table b p j)

abbrev pub rank_rows : Scene → Table → ℕ → ℕ → ℕ → ℕ → List Row
rank_rows scene table b j p r =
    map (λ item. record { clock = clock scene b j; app = b; port = p; rank = r; item = item })
    (rank_items_by (port_at scene b p).direction (port_at scene b p).kind scene table b j p r)

-- the rows of step j of application b: port by port, and rank by rank
unfoldable pub step_rows : Scene → Table → ℕ → ℕ → List Row
step_rows scene table b j =
    flat_map (λ p. flat_map (rank_rows scene table b j p) (below (rank_count (port_at scene b p).map))) (below (length (app_at scene b).ports))

-- ---- the rows of what was read

-- what a rank that maps these indices gets of the items that its port read in a step
abbrev pub rank_items_in : Direction → PortKind → List ℕ → List Item → List RowItem
rank_items_in Output kind globals items = []
rank_items_in Input Values globals items = read_at globals (value_in items)
rank_items_in Input _ globals items = flat_map (arrived_at globals) items

abbrev pub port_rows_in : Scene → ℕ → ℕ → ℕ → List Item → ℕ → List Row
port_rows_in scene b j p items r =
    map (λ item. record { clock = clock scene b j; app = b; port = p; rank = r; item = item })
    (rank_items_in (port_at scene b p).direction (port_at scene b p).kind (globals_of (port_at scene b p).map r) items)

-- the rows of step j of application b whose ports read these lists of items: port by port, and rank by rank. No table stands
-- in them; a law says that they are step_rows where the inputs read the table
unfoldable pub step_rows_in : Scene → ℕ → ℕ → StepOutput → List Row
step_rows_in scene b j inputs =
    flat_map (λ p. flat_map (port_rows_in scene b j p (slice_index_or inputs p [])) (below (rank_count (port_at scene b p).map))) (below (length (app_at scene b).ports))

-- ---- all rows

-- by clock, application, port and rank
abbrev pub row_cmp : Row → Row → Ordering
row_cmp x y =
    ordering_then (nat_cmp x.clock y.clock)
    (ordering_then (nat_cmp x.app y.app) (ordering_then (nat_cmp x.port y.port) (nat_cmp x.rank y.rank)))

-- the rows of all steps of all applications, in order. Rows that tie keep their places in their step
unfoldable pub rows : Scene → Table → List Row
rows scene table = in_order row_cmp (flat_map (λ b. flat_map (step_rows scene table b) (below (steps scene b))) (below (length scene.apps)))

-- ---- the bytes of the log

-- ','
abbrev pub comma : ℕ
comma = 44

-- the fields that depend on what a row tells. A message has local place 0 and global index 0, a value has an empty
-- time, and an event an empty value
abbrev pub kind_field : RowItem → List ℕ
kind_field (EventRow local global time) = codes "event"
kind_field (ValueRow local global value) = codes "cont"
kind_field (MessageRow time word) = codes "message"

abbrev pub local_field : RowItem → List ℕ
local_field (EventRow local global time) = decimal local
local_field (ValueRow local global value) = decimal local
local_field (MessageRow time word) = decimal 0

abbrev pub global_field : RowItem → List ℕ
global_field (EventRow local global time) = decimal global
global_field (ValueRow local global value) = decimal global
global_field (MessageRow time word) = decimal 0

abbrev pub time_field : RowItem → List ℕ
time_field (EventRow local global time) = decimal time
time_field (ValueRow local global value) = []
time_field (MessageRow time word) = decimal time

abbrev pub value_field : RowItem → List ℕ
value_field (EventRow local global time) = []
value_field (ValueRow local global value) = signed_decimal value
value_field (MessageRow time word) = word

-- Whether the scene can name a row: it has the application and the port, and a message's word is a word. A rank, a
-- local place and a global index are but numbers.
abbrev pub has_word : RowItem → Bool
has_word (EventRow local global time) = true
has_word (ValueRow local global value) = true
has_word (MessageRow time word) = is_word word

unfoldable pub is_writable : Scene → Row → Bool
is_writable scene row = nat_lt row.app (length scene.apps) && nat_lt row.port (length (app_at scene row.app).ports) && has_word row.item

-- the nine fields of a row, in the order of the header. Times are in ns and values in millionths
abbrev pub fields_of : Scene → Row → List (List ℕ)
fields_of scene row =
    decimal row.clock
    ∷ (app_at scene row.app).name
    ∷ (port_at scene row.app row.port).name
    ∷ kind_field row.item
    ∷ decimal row.rank
    ∷ local_field row.item
    ∷ global_field row.item
    ∷ time_field row.item
    ∷ value_field row.item
    ∷ []

-- the names of the nine columns
unfoldable pub header : List ℕ
header = ended (codes "clock,app,port,kind,rank,local,global,time,value")

unfoldable pub line_of : Scene → Row → List ℕ
line_of scene row = ended (join_with_byte comma (fields_of scene row))

-- the text of rows: the header, and a line for each
unfoldable pub text_of : Scene → List Row → List ℕ
text_of scene rows = header ++ flat_map (line_of scene) rows

-- the log of a scene: the text of the rows of its history
unfoldable pub log_of : Scene → List ℕ
log_of scene = text_of scene (rows scene (history scene))
