-- Places of items, sorted by the ranks that get something of them.
use Rattle.std.specs.Prelude.{ℕ, ◌≡◌, ◌<◌, ◌⊎◌, List, [], pos, slice_index_or}
use Rattle.std.specs.List.{flat_map}
use Rattle.index_maps.specs.Maps.{globals_of, rank_count}
use Rattle.index_maps.specs.declared.map.PortMap.{PortMap}
use Rattle.music_base.specs.declared.item.Item.{Item}
use Rattle.music_base.specs.declared.item.Item.TheVariants.{Value}
use Rattle.scene_model.specs.Logs.{arrived_at}
use Rattle.scene_model.specs.declared.row.RowItem.{RowItem}

-- what stands past the end of a list: no rank gets anything of it
abbrev pub no_item : Item
no_item = Value 0 (pos 0)

-- what a rank that maps these indices gets of the items at these places
abbrev pub got_at : List ℕ → List Item → List ℕ → List RowItem
got_at globals items places = flat_map (λ i. arrived_at globals (slice_index_or items i no_item)) places

-- no rank of a port but this one gets anything of an item
abbrev pub IsOnlyRank : PortMap → Item → ℕ → Type 0
IsOnlyRank map item rank = (r : ℕ) → r < rank_count map → (r < rank) ⊎ (rank < r) → arrived_at (globals_of map r) item ≡ []
