-- A map that a word spells maps global indices, and at no rank one twice where no list repeats one.
use Rattle.std.proofs.Common.{◌≡◌, ℕ, zero, suc, ◌+◌, ◌-◌, ◌<◌, ◌≤◌, Bool, true, false, nat_eq, List, [], ◌∷◌, length, refl, ap, arith}
use Rattle.std.specs.Prelude.{Option, Some, None, IfSome, option_map, nat_lt, nat_le, ◌==◌, slice_index_or, replicate, codes, if◌then◌else◌}
use Rattle.std.specs.List.{AllByRecursion, list_all, list_any, range_with_len, before_first, after_first}
use Rattle.std.specs.Option.{option_or}
use Rattle.std.proofs.lemmas.Bool.{eqb-true, leb-true, lt-ltb, ne_eqb}
use Rattle.std.proofs.lemmas.List.{get_or-replicate}
use Rattle.music_base.specs.Numbers.{all_differ}
use Rattle.index_maps.specs.Indices.{Extent, are_indices}
use Rattle.index_maps.specs.Maps.{globals, globals_of, no_indices, rank_count, split_at}
use Rattle.index_maps.specs.declared.span.TheConstants.{INDEX_LIMIT}
use Rattle.index_maps.specs.declared.map.IndexMap.{IndexMap}
use Rattle.index_maps.specs.declared.map.IndexMap.TheVariants.{Linear, Permutation}
use Rattle.index_maps.specs.declared.map.PortMap.{PortMap}
use Rattle.index_maps.specs.declared.map.PortMap.TheVariants.{Each, Split}
use Rattle.index_maps.proofs.Ranges.{are_indices-range}
use Rattle.index_maps.proofs.Repeats.{indices_differ}
use Rattle.index_maps.proofs.Splits.{split_at_rises, split_at_ends}
use Rattle.music_base.specs.Counts.{count_up_to}
use Rattle.text_words.specs.Options.{each, first_some}
use Rattle.text_words.specs.Parts.{is_byte, parts}
use Rattle.text_words.specs.OneWord.{behind}
use Rattle.text_words.proofs.Options.{IfSome-after, IfSome-bind, IfSome-each, IfSome-map, IfSome-or, IfSome-when, count_up_to-is}
use Rattle.scene_model.specs.Limits.{greatest_index}
use Rattle.scene_model.specs.Ports.{HasMessageMap, has_indices}
use Rattle.scene_model.specs.declared.port.Direction.{Direction}
use Rattle.scene_model.specs.declared.port.Direction.TheVariants.{Output, Input}
use Rattle.scene_model.specs.declared.port.PortKind.TheVariants.{Messages}
use Rattle.music_base.specs.Times.{plus}
use Rattle.port_table.specs.MapWords.{comma, index_list, map_in, map_repeat, message_map, one_index, rank_map, rank_maps, rank_repeat, slash, span_in, split_map, split_span}

-- ---- what words spell

-- consecutive indices or the entries of a list, each of which is a global index
abbrev IsRankWithin : IndexMap → Type 0
IsRankWithin (Linear span) = span.base + span.size ≤ INDEX_LIMIT
IsRankWithin (Permutation list) = list_all (λ i. nat_lt i INDEX_LIMIT) list ≡ true

abbrev pub IsWithin : PortMap → Type 0
IsWithin (Each maps) = AllByRecursion IsRankWithin maps
IsWithin (Split span ranks) = span.base + span.size ≤ INDEX_LIMIT

abbrev IsSpanWithin : Extent → Type 0
IsSpanWithin span = span.base + span.size ≤ INDEX_LIMIT

span_is : (text : List ℕ) → IfSome (span_in text) IsSpanWithin
unfolding span_in
span_is text =
    IfSome-after IsSpanWithin _ (count_up_to INDEX_LIMIT (before_first (is_byte plus) text)) (λ base.
    IfSome-after IsSpanWithin _ (count_up_to INDEX_LIMIT (after_first (is_byte plus) text)) (λ size.
    IfSome-when IsSpanWithin (record { base = base; size = size }) (nat_le (base + size) INDEX_LIMIT) (λ is. leb-true _ _ is)))

entries_are : (list : List ℕ) → AllByRecursion (λ i. nat_le i greatest_index ≡ true) list → list_all (λ i. nat_lt i INDEX_LIMIT) list ≡ true
entries_are [] small = refl
entries_are (i ∷ list) small = rw (lt-ltb i INDEX_LIMIT (omega (arith, leb-true i greatest_index small.0))) (entries_are list small.1)

list_is : (text : List ℕ) → IfSome (index_list text) (λ list. list_all (λ i. nat_lt i INDEX_LIMIT) list ≡ true)
unfolding index_list
list_is text = IfSome-all _ (IfSome-each (λ i. nat_le i greatest_index ≡ true) (count_up_to greatest_index) (count_up_to-is greatest_index) (parts comma text))
  where
    IfSome-all : (list : Option (List ℕ)) → IfSome list (AllByRecursion (λ i. nat_le i greatest_index ≡ true)) → IfSome list (λ entries. list_all (λ i. nat_lt i INDEX_LIMIT) entries ≡ true)
    IfSome-all None small = tt
    IfSome-all (Some entries) small = entries_are entries small

rank_map_is : (text : List ℕ) → IfSome (rank_map text) IsRankWithin
unfolding rank_map
rank_map_is text = go (list_any (is_byte plus) text) (span_in text) (index_list text) (span_is text) (list_is text)
  where
    go : (spans : Bool) (span : Option Extent) (list : Option (List ℕ)) → IfSome span IsSpanWithin → IfSome list (λ entries. list_all (λ i. nat_lt i INDEX_LIMIT) entries ≡ true)
        → IfSome (if spans then option_map (λ s. Linear s) span else option_map (λ l. Permutation l) list) IsRankWithin
    go true span list is are = IfSome-map IsSpanWithin IsRankWithin (λ s. Linear s) span is (λ s small. small)
    go false span list is are = IfSome-map (λ entries. list_all (λ i. nat_lt i INDEX_LIMIT) entries ≡ true) IsRankWithin (λ l. Permutation l) list are (λ l small. small)

-- a map for each of so many ranks
pub record IsSpelled (np : ℕ) (map : PortMap) : Type 0 where
  pub ranks : rank_count map ≡ np
  pub within : IsWithin map

rank_maps_are : (np : ℕ) (word : List ℕ) → IfSome (rank_maps np word) (λ maps. IsSpelled np (Each maps))
unfolding rank_maps
rank_maps_are np word =
    IfSome-bind (AllByRecursion IsRankWithin) (λ maps. IsSpelled np (Each maps)) _ (each rank_map (parts slash word)) (IfSome-each IsRankWithin rank_map rank_map_is (parts slash word)) (λ maps within.
    IfSome-when (λ maps. IsSpelled np (Each maps)) maps (length maps == np) (λ many. record { ranks = eqb-true _ _ many; within = within }))

split_span_is : (word : List ℕ) → IfSome (split_span word) IsSpanWithin
unfolding split_span
split_span_is word = IfSome-after IsSpanWithin span_in (behind (codes "split:") word) span_is

split_is : (np : ℕ) (word : List ℕ) → IfSome (split_map np word) (IsSpelled np)
split_is np word = IfSome-map IsSpanWithin (IsSpelled np) (λ span. Split span np) (split_span word) (split_span_is word) (λ span small. record { ranks = refl; within = small })

pub map_in-is : (np : ℕ) (word : List ℕ) → IfSome (map_in np word) (IsSpelled np)
unfolding map_in
map_in-is np word =
    IfSome-or (IsSpelled np) _ _ (split_is np word)
    (IfSome-map (λ maps. IsSpelled np (Each maps)) (IsSpelled np) (λ maps. Each maps) (rank_maps np word) (rank_maps_are np word) (λ maps is. is))

-- ---- the map of a message port

all_replicated : {X : Type 0} (P : X → Type 0) (n : ℕ) (x : X) → P x → AllByRecursion P (replicate n x)
all_replicated P zero x is = tt
all_replicated P (suc n) x is = (is, all_replicated P n x is)

length-replicated : {X : Type 0} (n : ℕ) (x : X) → length (replicate n x) ≡ n
length-replicated zero x = refl
length-replicated (suc n) x = ap suc (length-replicated n x)

pub message_map-is : (np : ℕ) (direction : Direction) → 1 ≤ np → IsSpelled np (message_map np direction)
message_map-is np Output some = record {
  ranks = omega (arith, length-replicated (np - 1) no_indices);
  within = (omega arith, all_replicated IsRankWithin (np - 1) no_indices (omega arith));
}
message_map-is np Input some = record {
  ranks = omega (arith, length-replicated (np - 1) one_index);
  within = (omega arith, all_replicated IsRankWithin (np - 1) one_index (omega arith));
}

-- it maps what a message port has to
pub message_map-maps : (np : ℕ) (direction : Direction) → HasMessageMap Messages direction (message_map np direction)
message_map-maps np Output zero lt = refl
message_map-maps np Input zero lt = refl
message_map-maps np Output (suc r) lt =
    ap globals (get_or-replicate (np - 1) r no_indices no_indices (omega (arith, lt, length-replicated (np - 1) no_indices)))
message_map-maps np Input (suc r) lt =
    ap globals (get_or-replicate (np - 1) r one_index no_indices (omega (arith, lt, length-replicated (np - 1) one_index)))

-- ---- where no list repeats an index

rank_is : (map : IndexMap) → IsRankWithin map → rank_repeat map ≡ None → are_indices (globals map) ≡ true
rank_is (Linear span) within once = are_indices-range span.base span.size within
rank_is (Permutation list) within once = indices_differ list within once

parts_once : (first others : Option ℕ) → option_or first others ≡ None → (first ≡ None) × (others ≡ None)
parts_once None others once = (refl, once)
parts_once (Some index) others once = absurd cc

each_is : (maps : List IndexMap) (r : ℕ) → AllByRecursion IsRankWithin maps → first_some rank_repeat maps ≡ None → are_indices (globals (slice_index_or maps r no_indices)) ≡ true
each_is [] r within once = refl
each_is (map ∷ maps) zero within once = rank_is map within.0 (parts_once (rank_repeat map) (first_some rank_repeat maps) once).0
each_is (map ∷ maps) (suc r) within once = each_is maps r within.1 (parts_once (rank_repeat map) (first_some rank_repeat maps) once).1

part_is : (span : Extent) (ranks r : ℕ) → r < ranks → span.base + span.size ≤ INDEX_LIMIT → are_indices (globals_of (Split span ranks) r) ≡ true
part_is span ranks r lt within =
    let rises = split_at_rises span.size ranks r (r + 1) (omega arith) (omega arith) in
    let ends = split_at_ends span.size ranks (r + 1) (omega arith) (omega arith) in
    are_indices-range (split_at span ranks r) (split_at span ranks (r + 1) - split_at span ranks r) (omega (arith, rises, ends))

globals_are : (map : PortMap) (r : ℕ) → r < rank_count map → IsWithin map → map_repeat map ≡ None → are_indices (globals_of map r) ≡ true
globals_are (Each maps) r lt within once = each_is maps r within once
globals_are (Split span ranks) r lt within once = part_is span ranks r lt within

all_of : (p : ℕ → Bool) (a n : ℕ) → ((i : ℕ) → i < a + n → p i ≡ true) → list_all p (range_with_len a n) ≡ true
all_of p a zero is = refl
all_of p a (suc n) is = rw (is a (omega arith)) (all_of p (a + 1) n (λ i lt. is i (omega arith)))

pub has_indices-is : (map : PortMap) → IsWithin map → map_repeat map ≡ None → has_indices map ≡ true
has_indices-is map within once = all_of (λ r. are_indices (globals_of map r)) 0 (rank_count map) (λ r lt. globals_are map r (omega arith) within once)
