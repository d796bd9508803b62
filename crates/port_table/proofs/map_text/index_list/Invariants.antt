use Rattle.std.proofs.Common.{◌≡◌, ◌++◌, List, ℕ, ◌+◌, length}
use Rattle.std.specs.Prelude.{option_map}
use Rattle.std.specs.Option.{option_copied, option_map_or}
use Rattle.text_words.specs.Parts.{parts_left}
use Rattle.text_words.specs.Options.{each}
use Rattle.music_base.specs.Counts.{count_up_to}
use Rattle.scene_model.specs.Limits.{greatest_index}
use Rattle.port_table.specs.MapWords.{index_list, comma}
use Rattle.port_table.proofs.map_text.index_list.Given as goal

abbrev pub invariant-loop-rest : goal.invariant-loop-rest
invariant-loop-rest l = option_map (λ (ys : List ℕ). l.list ++ ys) (each (count_up_to greatest_index) (parts_left comma (option_copied l.rest))) ≡ index_list l.text

abbrev pub decreases-loop-rest : goal.decreases-loop-rest
decreases-loop-rest l = option_map_or (λ bytes. 1 + length bytes.now) l.rest 0
