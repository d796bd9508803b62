-- The map that the words of a declaration state.
use Rattle.std.specs.Prelude.{map}
use Rattle.index_maps.specs.declared.map.IndexMap.{IndexMap}
use Rattle.index_maps.specs.declared.map.IndexMap.TheVariants.{Linear, Permutation}
use Rattle.index_maps.specs.declared.map.PortMap.{PortMap}
use Rattle.index_maps.specs.declared.map.PortMap.TheVariants as port
use Rattle.port_table.specs.declared.map_text.RankText.{RankText}
use Rattle.port_table.specs.declared.map_text.RankText.TheVariants.{Span, List}
use Rattle.port_table.specs.declared.map_text.MapText.{MapText}
use Rattle.port_table.specs.declared.map_text.MapText.TheVariants.{Each, Split}

abbrev pub rank_stated : RankText → IndexMap
rank_stated (Span span) = Linear span
rank_stated (List list) = Permutation list

abbrev pub map_stated : MapText → PortMap
map_stated (Each ranks) = port.Each (map rank_stated ranks.items)
map_stated (Split span ranks) = port.Split span ranks
