-- What each rank of a port maps.
use Rattle.std.specs.Prelude.{ℕ, ◌+◌, ◌-◌, ◌*◌, ◌/◌, Bool, ◌==◌, nat_lt, if◌then◌else◌, List, [], ◌∷◌, length, slice_index_or}
use Rattle.std.specs.List.{range_with_len, flat_map, list_any}
use Rattle.music_base.specs.Numbers.{below}
use Rattle.index_maps.specs.declared.span.Span.{Span}
use Rattle.index_maps.specs.declared.map.IndexMap.{IndexMap}
use Rattle.index_maps.specs.declared.map.IndexMap.TheVariants.{Linear, Permutation}
use Rattle.index_maps.specs.declared.map.PortMap.{PortMap}
use Rattle.index_maps.specs.declared.map.PortMap.TheVariants.{Each, Split}

-- ---- one rank

-- the global indices of a map, by their local places: in a linear map global = base + local, in a permutation the
-- entry at that place
abbrev pub globals : IndexMap → List ℕ
globals (Linear span) = range_with_len span.base span.size
globals (Permutation list) = list

-- the map of a rank that the port does not have
abbrev pub no_indices : IndexMap
no_indices = Linear (record { base = 0; size = 0 })

-- ---- all ranks

abbrev pub rank_count : PortMap → ℕ
rank_count (Each maps) = length maps
rank_count (Split span ranks) = ranks

-- where the indices of a rank begin in a split: the base and floor(rank * size / ranks)
abbrev pub split_at : Span → ℕ → ℕ → ℕ
split_at span ranks r = span.base + r * span.size / ranks

-- the global indices of a rank, by their local places. In a split they go up to where the next rank begins
abbrev pub globals_of : PortMap → ℕ → List ℕ
globals_of (Each maps) r = globals (slice_index_or maps r no_indices)
globals_of (Split span ranks) r = range_with_len (split_at span ranks r) (split_at span ranks (r + 1) - split_at span ranks r)

-- some rank maps the index
abbrev pub maps_index : PortMap → ℕ → Bool
maps_index map g = list_any (λ r. list_any (λ i. i == g) (globals_of map r)) (below (rank_count map))

-- ---- each index once

-- an ascending list with x at its place, once
abbrev pub with_index : ℕ → List ℕ → List ℕ
with_index x [] = x ∷ []
with_index x (y ∷ ys) = if nat_lt x y then x ∷ y ∷ ys else (if x == y then y ∷ ys else y ∷ with_index x ys)

abbrev pub ascending : List ℕ → List ℕ
ascending [] = []
ascending (x ∷ xs) = with_index x (ascending xs)

-- the indices that some rank maps, ascending and each once
abbrev pub indices : PortMap → List ℕ
indices map = ascending (flat_map (globals_of map) (below (rank_count map)))
