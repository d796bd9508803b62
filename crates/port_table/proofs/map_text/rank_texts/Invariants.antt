use Rattle.std.proofs.Common.{◌≡◌, ◌++◌, List, ◌+◌, length}
use Rattle.std.specs.Prelude.{option_map, map}
use Rattle.std.specs.Option.{option_copied, option_map_or}
use Rattle.text_words.specs.Parts.{parts, parts_left}
use Rattle.text_words.specs.Options.{each}
use Rattle.index_maps.specs.declared.map.IndexMap.{IndexMap}
use Rattle.port_table.specs.MapWords.{rank_map, slash}
use Rattle.port_table.specs.Stated.{rank_stated}
use Rattle.port_table.proofs.map_text.rank_texts.Given as goal

abbrev pub invariant-loop-rest : goal.invariant-loop-rest
invariant-loop-rest l = option_map (λ (ys : List IndexMap). map rank_stated l.ranks.items ++ ys) (each rank_map (parts_left slash (option_copied l.rest))) ≡ each rank_map (parts slash l.word)

abbrev pub decreases-loop-rest : goal.decreases-loop-rest
decreases-loop-rest l = option_map_or (λ bytes. 1 + length bytes.now) l.rest 0
