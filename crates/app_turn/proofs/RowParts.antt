-- Rows of a step, rank by rank and port by port.
use Rattle.std.proofs.Common.{ℕ, zero, suc, ◌+◌, ◌<◌, ◌≡◌, refl, sym, ◌∙◌, ap, arith, List, [], ◌∷◌, ◌++◌, length, map, append_assoc, get_or, Option, Some, None, true}
use Rattle.std.specs.Prelude.{◌==◌, nat_lt, slice_get, slice_index_or}
use Rattle.std.specs.List.{flat_map, list_all, position}
use Rattle.std.specs.Option.{option_to_list}
use Rattle.std.proofs.lemmas.Bool.{and_parts}
use Rattle.std.proofs.lemmas.Grind.{flat_map-append}
use Rattle.std.proofs.lemmas.List.{append-nil}
use Rattle.std.proofs.lemmas.List.FromFn.{map-range_with_len_more}
use Rattle.music_base.specs.Numbers.{all_differ, below}
use Rattle.music_base.proofs.Lists.{range_with_len-more}
use Rattle.index_maps.specs.Indices.{are_indices}
use Rattle.index_maps.specs.Maps.{globals_of, rank_count}
use Rattle.index_maps.specs.declared.span.TheConstants.{INDEX_LIMIT}
use Rattle.index_maps.proofs.Positions.{place_or_none}
use Rattle.scene_model.specs.Clocks.{clock}
use Rattle.scene_model.specs.Logs.{places_of, rank_items_in, step_rows_in}
use Rattle.scene_model.specs.Scenes.{app_at, port_at}
use Rattle.scene_model.specs.Tables.{StepOutput}
use Rattle.music_base.specs.declared.item.Item.{Item}
use Rattle.scene_model.specs.declared.port.Direction.{Direction}
use Rattle.scene_model.specs.declared.port.Direction.TheVariants.{Input, Output}
use Rattle.scene_model.specs.declared.port.PortDecl.{PortDecl}
use Rattle.scene_model.specs.declared.port.PortKind.{PortKind}
use Rattle.scene_model.specs.declared.port.PortKind.TheVariants.{Events, Messages, Values}
use Rattle.scene_model.specs.declared.row.RowItem.TheVariants.{Event as EventRow}
use Rattle.scene_model.specs.declared.scene.Scene.{Scene}
use Rattle.app_turn.specs.Rows.{HasNoRows, port_rows_of, rank_rows_of, row_of}

at_end : (n : ℕ) → 0 + n ≡ n
at_end n = omega arith

-- what one more number gives
pub flat_more : {X : Type 0} (f : ℕ → List X) (n : ℕ) (first made now : List X) → made ≡ first ++ flat_map f (below n) → now ≡ made ++ f n → now ≡ first ++ flat_map f (below (n + 1))
flat_more f n first made now so_far is =
    is ∙ ap (λ ys. ys ++ f n) so_far ∙ append_assoc first (flat_map f (below n)) (f n) ∙ ap (λ ys. first ++ ys) (sym next)
  where
    next : flat_map f (below (n + 1)) ≡ flat_map f (below n) ++ f n
    next = ap (flat_map f) (range_with_len-more 0 n) ∙ flat_map-append f (below n) ((0 + n) ∷ []) ∙ ap (λ ys. flat_map f (below n) ++ ys) (append-nil (f (0 + n)) ∙ ap f (at_end n))

pub map_more : {X : Type 0} (f : ℕ → X) (n : ℕ) (first made now : List X) → made ≡ first ++ map f (below n) → now ≡ made ++ f n ∷ [] → now ≡ first ++ map f (below (n + 1))
map_more f n first made now so_far is =
    is ∙ ap (λ ys. ys ++ f n ∷ []) so_far ∙ append_assoc first (map f (below n)) (f n ∷ []) ∙ ap (λ ys. first ++ ys) (sym (map-range_with_len_more f 0 n n (at_end n)))

-- an element that was found there is the one at that place
pub got_at : {X : Type 0} (xs : List X) (i : ℕ) (x d : X) → slice_get xs i ≡ Some x → get_or xs i d ≡ x
got_at [] i x d e = cc
got_at (y ∷ ys) zero x d e = cc
got_at (y ∷ ys) (suc i) x d e = got_at ys i x d e

pub not_past : {X : Type 0} (xs : List X) (i : ℕ) → slice_get xs i ≡ None → i < length xs → ⊥
not_past [] i e lt = omega arith
not_past (y ∷ ys) zero e lt = cc
not_past (y ∷ ys) (suc i) e lt = not_past ys i e (omega (arith, lt))

-- the rows of an event at the first place of its index, or none
pub event_at : (globals : List ℕ) (g time : ℕ) → all_differ ◌==◌ globals ≡ true → (found : Option ℕ) → found ≡ position (λ i. i == g) globals
    → map (λ local. EventRow local g time) (option_to_list found) ≡ map (λ local. EventRow local g time) (places_of globals g)
event_at globals g time differ found is = ap (λ o. map (λ local. EventRow local g time) (option_to_list o)) is ∙ ap (map (λ local. EventRow local g time)) (sym (place_or_none globals g differ))

-- the rows of all ports are those of the step
pub all_rows : (scene : Scene) (app j clocks : ℕ) (inputs : StepOutput) → clocks ≡ clock scene app j
    → flat_map (λ p. port_rows_of (port_at scene app p) clocks app p (slice_index_or inputs p [])) (below (length (app_at scene app).ports)) ≡ step_rows_in scene app j inputs
unfolding step_rows_in
all_rows scene app j clocks inputs is = ap (λ t. flat_map (λ p. port_rows_of (port_at scene app p) t app p (slice_index_or inputs p [])) (below (length (app_at scene app).ports))) is

pub differ : (globals : List ℕ) → are_indices globals ≡ true → all_differ ◌==◌ globals ≡ true
differ globals are = (and_parts (list_all (λ i. nat_lt i INDEX_LIMIT) globals) (all_differ ◌==◌ globals) are).1

-- ---- no rows

nothing : {X : Type 0} (f : ℕ → List X) (ranks : List ℕ) → ((r : ℕ) → f r ≡ []) → flat_map f ranks ≡ []
nothing f [] none = refl
nothing f (r ∷ ranks) none = rw (none r, nothing f ranks none) refl

nothing_in : (d : Direction) (k : PortKind) (globals : List ℕ) → (d ≡ Input → k ≡ Values → ⊥) → rank_items_in d k globals [] ≡ []
nothing_in Output k globals other = refl
nothing_in Input Events globals other = refl
nothing_in Input Messages globals other = refl
nothing_in Input Values globals other = absurd (other refl refl)

-- where nothing came no rank has a row, but of values
pub no_rows : (decl : PortDecl) (clock app port : ℕ) (items : List Item) → HasNoRows decl items → port_rows_of decl clock app port items ≡ []
no_rows decl clock app port [] h =
    nothing (λ r. rank_rows_of decl (record { clock = clock; app = app; port = port; rank = r }) []) (below (rank_count decl.map))
    (λ r. ap (map (row_of (record { clock = clock; app = app; port = port; rank = r }))) (nothing_in decl.direction decl.kind (globals_of decl.map r) h.1))
no_rows decl clock app port (item ∷ items) h = absurd (omega (arith, h.0))
