-- A map, which is one word.
use Rattle.std.specs.Prelude.{ℕ, ◌+◌, ◌-◌, ◌==◌, nat_le, if◌then◌else◌, List, ◌∷◌, length, replicate, codes, Option, None, option_map}
use Rattle.std.specs.List.{list_any, before_first, after_first}
use Rattle.std.specs.Option.{option_or}
use Rattle.music_base.specs.Times.{plus}
use Rattle.text_words.specs.Options.{◌>>=◌, ◌when◌, each, first_some}
use Rattle.text_words.specs.Parts.{is_byte, parts}
use Rattle.text_words.specs.OneWord.{behind}
use Rattle.music_base.specs.Counts.{count_up_to}
use Rattle.index_maps.specs.Indices.{Extent}
use Rattle.index_maps.specs.Maps.{no_indices}
use Rattle.index_maps.specs.Repeats.{first_repeat}
use Rattle.index_maps.specs.declared.span.TheConstants.{INDEX_LIMIT}
use Rattle.index_maps.specs.declared.map.IndexMap.{IndexMap}
use Rattle.index_maps.specs.declared.map.IndexMap.TheVariants.{Linear, Permutation}
use Rattle.index_maps.specs.declared.map.PortMap.{PortMap}
use Rattle.index_maps.specs.declared.map.PortMap.TheVariants.{Each, Split}
use Rattle.scene_model.specs.Limits.{greatest_index}
use Rattle.scene_model.specs.declared.port.Direction.{Direction}
use Rattle.scene_model.specs.declared.port.Direction.TheVariants.{Output, Input}

abbrev pub comma : ℕ
comma = 44

abbrev pub slash : ℕ
slash = 47

-- ---- one rank

-- B+N: N indices from B on, with B + N at most the limit
unfoldable pub span_in : List ℕ → Option Extent
span_in text = do
  base ← count_up_to INDEX_LIMIT (before_first (is_byte plus) text)
  size ← count_up_to INDEX_LIMIT (after_first (is_byte plus) text)
  record { base = base; size = size } when nat_le (base + size) INDEX_LIMIT

-- indices joined by commas
unfoldable pub index_list : List ℕ → Option (List ℕ)
index_list text = each (count_up_to greatest_index) (parts comma text)

-- B+N, or a list, in which an index may still come twice
unfoldable pub rank_map : List ℕ → Option IndexMap
rank_map text = if list_any (is_byte plus) text then option_map (λ span. Linear span) (span_in text) else option_map (λ list. Permutation list) (index_list text)

-- ---- all ranks

-- as many rank maps as there are ranks, joined by '/'
unfoldable pub rank_maps : ℕ → List ℕ → Option (List IndexMap)
rank_maps np word = each rank_map (parts slash word) >>= λ maps. maps when length maps == np

-- split:B+N: the span that is split
unfoldable pub split_span : List ℕ → Option Extent
split_span word = behind (codes "split:") word >>= span_in

-- the same for np ranks
abbrev pub split_map : ℕ → List ℕ → Option PortMap
split_map np word = option_map (λ span. Split span np) (split_span word)

-- the map of a port of np ranks
unfoldable pub map_in : ℕ → List ℕ → Option PortMap
map_in np word = option_or (split_map np word) (option_map (λ maps. Each maps) (rank_maps np word))

-- ---- the map of a message port, which no word states

-- index 0 alone
abbrev pub one_index : IndexMap
one_index = Linear (record { base = 0; size = 1 })

-- an output maps index 0 at rank 0 and nothing at its other ranks, an input index 0 at each rank
abbrev pub message_map : ℕ → Direction → PortMap
message_map np Output = Each (one_index ∷ replicate (np - 1) no_indices)
message_map np Input = Each (one_index ∷ replicate (np - 1) one_index)

-- ---- indices that come twice in a list

abbrev pub rank_repeat : IndexMap → Option ℕ
rank_repeat (Linear span) = None
rank_repeat (Permutation list) = first_repeat list

-- the first repeat of the first rank whose list has one
abbrev pub map_repeat : PortMap → Option ℕ
map_repeat (Each maps) = first_some rank_repeat maps
map_repeat (Split span ranks) = None
