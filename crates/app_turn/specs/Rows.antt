-- Rows of what a rank read in a step.
use Rattle.std.specs.Prelude.{ℕ, ℤ, ◌≡◌, List, length, map, slice_index}
use Rattle.std.specs.List.{flat_map, range_with_len}
use Rattle.index_maps.specs.Indices.{Extent}
use Rattle.index_maps.specs.Maps.{globals_of}
use Rattle.music_base.specs.declared.item.Item.{Item}
use Rattle.music_base.specs.Numbers.{below}
use Rattle.index_maps.specs.Maps.{rank_count}
use Rattle.scene_model.specs.Logs.{arrived_at, rank_items_in}
use Rattle.scene_model.specs.declared.port.Direction.TheVariants.{Input}
use Rattle.scene_model.specs.declared.port.PortDecl.{PortDecl}
use Rattle.scene_model.specs.declared.port.PortKind.TheVariants.{Values}
use Rattle.scene_model.specs.declared.row.Row.{Row}
use Rattle.scene_model.specs.declared.row.RowItem.{RowItem}
use Rattle.scene_model.specs.declared.row.RowItem.TheVariants.{Value as ValueRow}
use Rattle.app_turn.specs.declared.rows.ReadAt.{ReadAt}

-- the row of an item that was read there
abbrev pub row_of : ReadAt → RowItem → Row
row_of place item = record { clock = place.clock; app = place.app; port = place.port; rank = place.rank; item = item }

-- the rows of a rank of a port that read these items
abbrev pub rank_rows_of : PortDecl → ReadAt → List Item → List Row
rank_rows_of decl place items = map (row_of place) (rank_items_in decl.direction decl.kind (globals_of decl.map place.rank) items)

-- the rows of all its ranks
abbrev pub port_rows_of : PortDecl → ℕ → ℕ → ℕ → List Item → List Row
port_rows_of decl clock app port items = flat_map (λ r. rank_rows_of decl (record { clock = clock; app = app; port = port; rank = r }) items) (below (rank_count decl.map))

-- these indices are consecutive
abbrev pub IsSpanOf : List ℕ → Extent → Type 0
IsSpanOf globals span = globals ≡ range_with_len span.base span.size

-- nothing came to a port that is no continuous input
abbrev pub HasNoRows : PortDecl → List Item → Type 0
HasNoRows decl items = (length items ≡ 0) × (decl.direction ≡ Input → decl.kind ≡ Values → ⊥)

-- of a rank that maps these indices: the row of the value at a local place, and the rows of an arrival
abbrev pub value_row : ReadAt → List ℕ → (ℕ → ℤ) → ℕ → Row
value_row place globals reads local = row_of place (ValueRow local (slice_index globals local) (reads (slice_index globals local)))

abbrev pub arrived_rows : ReadAt → List ℕ → Item → List Row
arrived_rows place globals item = map (row_of place) (arrived_at globals item)
