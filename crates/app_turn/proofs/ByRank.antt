-- Sorting places by rank: which ranks get nothing of an item, and what one place more gives.
use Rattle.std.proofs.Common.{ℕ, ◌+◌, ◌-◌, ◌<◌, ◌≤◌, ◌≡◌, ◌⊎◌, inl, inr, refl, sym, ◌∙◌, ap, arith, true, false, nat_eq, nat_lt, nat_le, ◌&&◌, List, [], ◌∷◌, ◌++◌, length, get_or, set, take, get_or-set_same, get_or-set_other}
use Rattle.std.specs.Prelude.{◌==◌, slice_index}
use Rattle.std.specs.List.{flat_map, list_any, range_with_len}
use Rattle.std.proofs.lemmas.Bool.{cases_eq, cases_lt}
use Rattle.std.proofs.lemmas.Bool.Decides.{nat_tests}
use Rattle.std.proofs.lemmas.Grind.{flat_map-append}
use Rattle.std.proofs.lemmas.List.{append-nil, take_more}
use Rattle.music_base.specs.Numbers.{below}
use Rattle.music_base.specs.declared.item.Item.{Item}
use Rattle.music_base.proofs.Lists.{All-below, filter-none, none_passes}
use Rattle.index_maps.specs.Maps.{globals_of, split_at}
use Rattle.index_maps.specs.declared.map.PortMap.TheVariants.{Split}
use Rattle.index_maps.specs.declared.span.Span.{Span}
use Rattle.index_maps.proofs.Ranges.{list_any_range}
use Rattle.index_maps.proofs.Splits.{split_at_rises}
use Rattle.scene_model.specs.Logs.{arrived_at, places_of, rank_items_in}
use Rattle.scene_model.specs.declared.port.Direction.{Direction}
use Rattle.scene_model.specs.declared.port.Direction.TheVariants.{Input}
use Rattle.scene_model.specs.declared.port.PortKind.{PortKind}
use Rattle.scene_model.specs.declared.port.PortKind.TheVariants.{Events}
use Rattle.scene_model.specs.declared.row.RowItem.{RowItem}
use Rattle.app_turn.specs.ByRank.{got_at, no_item}

-- ---- parts of a split

-- an index between the ends of one range lies in no range that ends before it, and in none that begins behind it
apart : (a b c d g : ℕ) → a ≤ b → c ≤ d → list_any (λ i. i == g) (range_with_len a (b - a)) ≡ true → (d ≤ a) ⊎ (b ≤ c) → list_any (λ i. i == g) (range_with_len c (d - c)) ≡ false
apart a b c d g first second is side =
    let e : (nat_le a g && nat_lt g (a + (b - a))) ≡ true = sym (list_any_range g a (b - a)) ∙ is in
    let outside : (nat_le c g && nat_lt g (c + (d - c))) ≡ false = elim side [ inl before ↦ grind (arith, nat_tests) | inr behind ↦ grind (arith, nat_tests) ] in
    list_any_range g c (d - c) ∙ outside

-- no other part of a split has an index that one has
other_part : (span : Span) (ranks r k g : ℕ) → 0 < ranks → list_any (λ i. i == g) (globals_of (Split span ranks) r) ≡ true → (k < r) ⊎ (r < k) → list_any (λ i. i == g) (globals_of (Split span ranks) k) ≡ false
other_part span ranks r k g some is side =
    let own : split_at span ranks r ≤ split_at span ranks (r + 1) = omega (arith, split_at_rises span.size ranks r (r + 1) some (omega arith)) in
    let other : split_at span ranks k ≤ split_at span ranks (k + 1) = omega (arith, split_at_rises span.size ranks k (k + 1) some (omega arith)) in
    apart (split_at span ranks r) (split_at span ranks (r + 1)) (split_at span ranks k) (split_at span ranks (k + 1)) g own other is (elim side [
      | inl before ↦ inl (omega (arith, split_at_rises span.size ranks (k + 1) r some (omega arith)))
      | inr behind ↦ inr (omega (arith, split_at_rises span.size ranks (r + 1) k some (omega arith)))
    ])

-- an index that is not in a list has no place there
no_places : (globals : List ℕ) (g : ℕ) → list_any (λ i. i == g) globals ≡ false → places_of globals g ≡ []
no_places globals g none =
    filter-none (λ local. slice_index globals local == g) (below (length globals))
    (All-below (λ local. nat_eq (slice_index globals local) g ≡ false) (length globals) (λ local lt. none_passes (λ i. i == g) globals local 0 none lt))

pub no_other : (span : Span) (ranks r k g : ℕ) → 0 < ranks → list_any (λ i. i == g) (globals_of (Split span ranks) r) ≡ true → (k < r) ⊎ (r < k) → places_of (globals_of (Split span ranks) k) g ≡ []
no_other span ranks r k g some is side = no_places (globals_of (Split span ranks) k) g (other_part span ranks r k g some is side)

-- ---- a place more

-- in the list of one rank
pub pushed_at : (lists now : List (List ℕ)) (rank place : ℕ) → rank < length lists → now ≡ set lists rank (get_or lists rank [] ++ place ∷ []) → get_or now rank [] ≡ get_or lists rank [] ++ place ∷ []
pushed_at lists now rank place lt is = ap (λ (l : List (List ℕ)). get_or l rank []) is ∙ get_or-set_same lists rank (get_or lists rank [] ++ place ∷ []) [] lt

-- and no other list changes
pub kept_at : (lists now : List (List ℕ)) (rank place r : ℕ) → (r ≡ rank → ⊥) → now ≡ set lists rank (get_or lists rank [] ++ place ∷ []) → get_or now r [] ≡ get_or lists r []
kept_at lists now rank place r ne is = ap (λ (l : List (List ℕ)). get_or l r []) is ∙ get_or-set_other lists rank r (get_or lists rank [] ++ place ∷ []) [] ne

-- one list more of all has the place
pub done_more : (first lists now : List (List ℕ)) (rank place : ℕ) → rank < length lists → now ≡ set lists rank (get_or lists rank [] ++ place ∷ [])
    → ((r : ℕ) → r < rank → get_or lists r [] ≡ get_or first r [] ++ place ∷ []) → ((r : ℕ) → rank ≤ r → get_or lists r [] ≡ get_or first r [])
    → (r : ℕ) → r < rank + 1 → get_or now r [] ≡ get_or first r [] ++ place ∷ []
done_more first lists now rank place lt is done rest r small = elim (cases_eq r rank) [
  | inl same ↦ rw same (pushed_at lists now rank place lt is ∙ ap (λ ys. ys ++ place ∷ []) (rest rank (omega arith)))
  | inr ne ↦ kept_at lists now rank place r ne is ∙ done r (omega (arith, small, ne))
]

-- what a rank gets with it
pub one_more : (globals : List ℕ) (items : List Item) (places now : List ℕ) (place : ℕ) → now ≡ places ++ place ∷ []
    → got_at globals items now ≡ got_at globals items places ++ arrived_at globals (get_or items place no_item)
one_more globals items places now place is =
    ap (got_at globals items) is ∙ flat_map-append (λ i. arrived_at globals (get_or items i no_item)) places (place ∷ [])
    ∙ ap (λ ys. got_at globals items places ++ ys) (append-nil (arrived_at globals (get_or items place no_item)))

-- a place of an item that the rank gets nothing of is left out
pub none_more : (globals : List ℕ) (items : List Item) (places now : List ℕ) (place : ℕ) → now ≡ places → arrived_at globals (get_or items place no_item) ≡ []
    → got_at globals items now ≡ got_at globals items places ++ arrived_at globals (get_or items place no_item)
none_more globals items places now place is none =
    ap (got_at globals items) is ∙ sym (append-nil (got_at globals items places)) ∙ ap (λ ys. got_at globals items places ++ ys) (sym none)

-- the place was pushed to the list of the one rank that gets something
pub to_one : (globals : List ℕ) (items : List Item) (lists now : List (List ℕ)) (rank place r : ℕ) → rank < length lists → now ≡ set lists rank (get_or lists rank [] ++ place ∷ [])
    → ((r < rank) ⊎ (rank < r) → arrived_at globals (get_or items place no_item) ≡ [])
    → got_at globals items (get_or now r []) ≡ got_at globals items (get_or lists r []) ++ arrived_at globals (get_or items place no_item)
to_one globals items lists now rank place r lt is only = elim (cases_eq r rank) [
  | inl same ↦ rw same (one_more globals items (get_or lists rank []) (get_or now rank []) place (pushed_at lists now rank place lt is))
  | inr ne ↦ none_more globals items (get_or lists r []) (get_or now r []) place (kept_at lists now rank place r ne is) (only (side (cases_lt r rank) ne))
]
  where
    side : (r < rank) ⊎ (rank ≤ r) → (r ≡ rank → ⊥) → (r < rank) ⊎ (rank < r)
    side (inl l) ne = inl l
    side (inr g) ne = elim (cases_lt rank r) [ inl l ↦ inr l | inr le ↦ absurd (ne (omega arith)) ]

-- what was gathered up to a place, and what is gathered up to the next
pub got_more : (globals : List ℕ) (items : List Item) (n : ℕ) (before now : List RowItem) → n < length items → before ≡ flat_map (arrived_at globals) (take n items)
    → now ≡ before ++ arrived_at globals (get_or items n no_item) → now ≡ flat_map (arrived_at globals) (take (n + 1) items)
got_more globals items n before now lt so_far is =
    is ∙ ap (λ ys. ys ++ arrived_at globals (get_or items n no_item)) so_far
    ∙ sym (ap (flat_map (arrived_at globals)) (take_more items n no_item lt) ∙ flat_map-append (arrived_at globals) (take n items) (get_or items n no_item ∷ [])
    ∙ ap (λ ys. flat_map (arrived_at globals) (take n items) ++ ys) (append-nil (arrived_at globals (get_or items n no_item))))

-- what a rank of an input for events gets of what it read
pub events_in : (d : Direction) (k : PortKind) (globals : List ℕ) (items : List Item) → d ≡ Input → k ≡ Events → rank_items_in d k globals items ≡ flat_map (arrived_at globals) items
events_in d k globals items input events = rw (input, events) refl
