-- Small maps, of which `maps_compute` says what they map.
use Rattle.std.specs.Prelude.{[], ◌∷◌}
use Rattle.index_maps.specs.declared.map.IndexMap.TheVariants.{Linear, Permutation}
use Rattle.index_maps.specs.declared.map.PortMap.{PortMap}
use Rattle.index_maps.specs.declared.map.PortMap.TheVariants.{Each, Split}

-- 4+3
abbrev pub linear : PortMap
linear = Each (Linear (record { base = 4; size = 3 }) ∷ [])

-- 7,2,5
abbrev pub permuted : PortMap
permuted = Each (Permutation (7 ∷ 2 ∷ 5 ∷ []) ∷ [])

-- split:20+10 over three ranks
abbrev pub split_in_three : PortMap
split_in_three = Split (record { base = 20; size = 10 }) 3

-- 0+3/3,2: both ranks map index 2
abbrev pub sharing : PortMap
sharing = Each (Linear (record { base = 0; size = 3 }) ∷ Permutation (3 ∷ 2 ∷ []) ∷ [])
