-- Intervals of indices, and how many ranks map an index.
use Rattle.std.specs.Prelude.{ℕ, ◌+◌, ◌-◌, Bool, true, ◌&&◌, ◌==◌, nat_lt, nat_le, if◌then◌else◌, List, [], ◌∷◌, Option}
use Rattle.std.specs.List.{range_with_len, list_any, count_by, find}
use Rattle.music_base.specs.Numbers.{below}
use Rattle.index_maps.specs.Maps.{globals, globals_of, rank_count, indices}
use Rattle.index_maps.specs.declared.interval.Interval.{Interval}
use Rattle.index_maps.specs.Indices.{Extent}
use Rattle.index_maps.specs.declared.map.IndexMap.{IndexMap}
use Rattle.index_maps.specs.declared.map.PortMap.{PortMap}

-- ---- intervals

-- the indices of an interval, ascending
abbrev pub interval_indices : Interval → List ℕ
interval_indices interval = range_with_len interval.first (interval.after - interval.first)

abbrev pub holds : ℕ → Interval → Bool
holds g interval = nat_le interval.first g && nat_lt g interval.after

abbrev pub is_some_interval : Interval → Bool
is_some_interval interval = nat_lt interval.first interval.after

-- the first of them begins above an index, where there is one
abbrev pub begins_above : ℕ → List Interval → Bool
begins_above g [] = true
begins_above g (interval ∷ intervals) = nat_lt g interval.first

-- ascending, none empty, and no two touch
abbrev pub are_apart : List Interval → Bool
are_apart [] = true
are_apart (interval ∷ intervals) = is_some_interval interval && begins_above interval.after intervals && are_apart intervals

-- ---- indices that ranks share

-- how many ranks map an index
unfoldable pub ranks_mapping : PortMap → ℕ → ℕ
ranks_mapping map g = count_by (λ r. list_any (λ i. i == g) (globals_of map r)) (below (rank_count map))

abbrev pub is_shared : PortMap → ℕ → Bool
is_shared map g = nat_lt 1 (ranks_mapping map g)

-- the least index that two ranks map
unfoldable pub first_shared : PortMap → Option ℕ
first_shared map = find (is_shared map) (indices map)

-- ---- how the indices of a rank stand in intervals

-- consecutive indices are one interval, none where there are none
abbrev pub span_of : Extent → List Interval
span_of span = if span.size == 0 then [] else record { first = span.base; after = span.base + span.size } ∷ []

-- the interval of one index
abbrev pub single : ℕ → Interval
single i = record { first = i; after = i + 1 }

-- 1 where the rank maps the index
abbrev pub mapped_once : IndexMap → ℕ → ℕ
mapped_once map g = if list_any (λ i. i == g) (globals map) then 1 else 0
