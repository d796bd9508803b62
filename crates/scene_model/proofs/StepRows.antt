-- The rows of a step are those of what its inputs read.
use Rattle.std.proofs.Common.{ℕ, ◌<◌, ◌≡◌, ap, arith, refl, sym, ◌∙◌, zero-add, map, List, [], ◌∷◌, length, true, ℤ, inl, inr}
use Rattle.std.specs.Prelude.{◌==◌, slice_index_or, slice_index}
use Rattle.std.specs.List.{flat_map, list_any}
use Rattle.std.proofs.lemmas.Bool.{cases_Bool, eqb-true}
use Rattle.std.proofs.lemmas.Bool.Decides.{nat_tests}
use Rattle.std.proofs.lemmas.List.Folds.{list_any_at}
use Rattle.std.proofs.lemmas.List.FromFn.{get_or-map-range_with_len, get_or-range_with_len, length-range_with_len}
use Rattle.music_base.specs.Numbers.{below}
use Rattle.music_base.proofs.Lists.{flat_map-agree_within, map-agree_within}
use Rattle.music_base.specs.declared.item.Item.{Item}
use Rattle.music_base.specs.declared.item.Item.TheVariants.{Value}
use Rattle.index_maps.specs.Maps.{globals_of, indices, maps_index, rank_count}
use Rattle.index_maps.proofs.Ascending.{has-indices}
use Rattle.index_maps.specs.declared.map.PortMap.{PortMap}
use Rattle.scene_model.specs.Clocks.{clock}
use Rattle.scene_model.specs.Lives.{inputs, input_by}
use Rattle.scene_model.specs.Logs.{port_rows_in, rank_items_by, rank_items_in, rank_rows, read_at, step_rows, step_rows_in}
use Rattle.scene_model.specs.Scenes.{app_at, port_at}
use Rattle.scene_model.specs.Tables.{Table, value, value_in}
use Rattle.scene_model.specs.declared.scene.Scene.{Scene}
use Rattle.scene_model.specs.declared.row.Row.{Row}
use Rattle.scene_model.specs.declared.row.RowItem.{RowItem}
use Rattle.scene_model.specs.declared.row.RowItem.TheVariants.{Value as ValueRow}
use Rattle.scene_model.specs.declared.port.PortKind.{PortKind}
use Rattle.scene_model.specs.declared.port.PortKind.TheVariants.{Events, Values, Messages}
use Rattle.scene_model.specs.declared.port.Direction.{Direction}
use Rattle.scene_model.specs.declared.port.Direction.TheVariants.{Output, Input}

-- ---- a value among values

-- the value of an index among one for each of some indices
value_among : (f : ℕ → ℤ) (gs : List ℕ) (g : ℕ) → list_any (λ i. i == g) gs ≡ true → value_in (map (λ g. Value g (f g)) gs) g ≡ f g
value_among f [] g h = absurd cc
value_among f (x ∷ gs) g h = elim (cases_Bool (x == g)) [
  | inl here ↦ let e : x ≡ g = eqb-true x g here in rw here (ap f e)
  | inr other ↦ let rest : list_any (λ i. i == g) gs ≡ true = rw other at h in rw other (value_among f gs g rest)
]

-- a port maps what stands at a place of a rank
maps_at : (m : PortMap) (r i : ℕ) → r < rank_count m → i < length (globals_of m r) → maps_index m (slice_index (globals_of m r) i) ≡ true
maps_at m r i rank place =
    let g : ℕ = slice_index (globals_of m r) i in
    let here : list_any (λ x. x == g) (globals_of m r) ≡ true = list_any_at (λ x. x == g) (globals_of m r) i 0 place (grind (arith, nat_tests)) in
    list_any_at (λ s. list_any (λ x. x == g) (globals_of m s)) (below (rank_count m)) r 0 (omega (arith, length-range_with_len 0 (rank_count m)))
    (rw (get_or-range_with_len 0 (rank_count m) r 0 rank, zero-add r) here)

reads_same : (f h : ℕ → ℤ) (globals : List ℕ) → ((i : ℕ) → i < length globals → f (slice_index globals i) ≡ h (slice_index globals i)) → read_at globals f ≡ read_at globals h
reads_same f h globals same =
    map-agree_within (λ local. ValueRow local (slice_index globals local) (f (slice_index globals local))) (λ local. ValueRow local (slice_index globals local) (h (slice_index globals local))) 0 (length globals)
    (λ k low high. ap (λ v. ValueRow k (slice_index globals k) v) (same k (omega arith)))

-- ---- a rank

rank_same : (scene : Scene) (table : Table) (b j p r : ℕ) (direction : Direction) (kind : PortKind) → r < rank_count (port_at scene b p).map
    → rank_items_by direction kind scene table b j p r ≡ rank_items_in direction kind (globals_of (port_at scene b p).map r) (input_by direction kind scene table b j p)
rank_same scene table b j p r Output kind rank = refl
rank_same scene table b j p r Input Events rank = refl
rank_same scene table b j p r Input Messages rank = refl
rank_same scene table b j p r Input Values rank =
    let m : PortMap = (port_at scene b p).map in
    reads_same (value scene table b p j) (value_in (map (λ g. Value g (value scene table b p j g)) (indices m))) (globals_of m r)
    (λ i place. sym (value_among (value scene table b p j) (indices m) (slice_index (globals_of m r) i) (has-indices (slice_index (globals_of m r) i) m ∙ maps_at m r i rank place)))

port_same : (scene : Scene) (table : Table) (b j p r : ℕ) → r < rank_count (port_at scene b p).map
    → rank_rows scene table b j p r ≡ port_rows_in scene b j p (input_by (port_at scene b p).direction (port_at scene b p).kind scene table b j p) r
port_same scene table b j p r rank =
    let row_in : RowItem → Row = λ item. record { clock = clock scene b j; app = b; port = p; rank = r; item = item } in
    ap (map row_in) (rank_same scene table b j p r (port_at scene b p).direction (port_at scene b p).kind rank)

-- ---- a step

pub rows_same : (scene : Scene) (table : Table) (b j : ℕ) → step_rows scene table b j ≡ step_rows_in scene b j (inputs scene table b j)
unfolding step_rows step_rows_in
rows_same scene table b j =
    let f : ℕ → List Item = λ (p : ℕ). input_by (port_at scene b p).direction (port_at scene b p).kind scene table b j p in
    flat_map-agree_within (λ p. flat_map (rank_rows scene table b j p) (below (rank_count (port_at scene b p).map)))
    (λ p. flat_map (port_rows_in scene b j p (slice_index_or (inputs scene table b j) p [])) (below (rank_count (port_at scene b p).map))) 0 (length (app_at scene b).ports)
    (λ p low high.
    let e : slice_index_or (inputs scene table b j) p [] ≡ f p = get_or-map-range_with_len f 0 (length (app_at scene b).ports) p p [] (omega arith) (zero-add p) in
    flat_map-agree_within (rank_rows scene table b j p) (port_rows_in scene b j p (f p)) 0 (rank_count (port_at scene b p).map) (λ r l h. port_same scene table b j p r (omega arith))
    ∙ ap (λ (items : List Item). flat_map (port_rows_in scene b j p items) (below (rank_count (port_at scene b p).map))) (sym e))
