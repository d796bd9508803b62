-- What the lent map of one rank maps.
use Rattle.std.specs.Prelude.{ℕ, List}
use Rattle.std.specs.List.{range_with_len}
use Rattle.index_maps.specs.declared.rank.RankMap.{RankMap}
use Rattle.index_maps.specs.declared.rank.RankMap.TheVariants.{Linear, Permutation}

-- its global indices, by their local places
abbrev pub mapped : RankMap → List ℕ
mapped (Linear span) = range_with_len span.base span.size
mapped (Permutation list) = list.now
