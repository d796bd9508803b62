-- The rows of an application's steps stand in row order.
use Rattle.std.proofs.Common.{ℕ, zero, suc, ◌+◌, ◌-◌, ◌*◌, ◌<◌, ◌≤◌, ◌≡◌, refl, ◌∙◌, ap, arith, true, false, inl, inr, nat_lt, nat_eq, List, [], ◌∷◌, ◌++◌, length}
use Rattle.std.specs.List.{AllByRecursion, flat_map, range_with_len}
use Rattle.std.specs.Ordering.{is_gt, nat_cmp, ordering_then}
use Rattle.std.specs.declared.cmp.Ordering.{Ordering}
use Rattle.std.proofs.lemmas.Bool.{cases_lt, eq-eqb, le-ltb, lt-ltb}
use Rattle.std.proofs.lemmas.List.{append-nil}
use Rattle.std.proofs.lemmas.List.Concat.{flat_map-append}
use Rattle.std.proofs.Math.Nat.{mul-le-mul_right}
use Rattle.music_base.specs.Numbers.{below}
use Rattle.music_base.proofs.Lists.{All-append, All-flat_map, All-map_of, All-of, All-range_with_len, All-weaker, range_with_len-more}
use Rattle.music_base.proofs.Ordered.{not_after}
use Rattle.index_maps.specs.Maps.{rank_count}
use Rattle.scene_model.specs.Clocks.{clock, tick}
use Rattle.scene_model.specs.Faults.{IsFaultless}
use Rattle.scene_model.specs.Lives.{history}
use Rattle.scene_model.specs.Logs.{rank_rows, row_cmp, step_rows}
use Rattle.scene_model.specs.Scenes.{app_at, port_at}
use Rattle.scene_model.specs.Tables.{Table}
use Rattle.scene_model.specs.declared.row.Row.{Row}
use Rattle.scene_model.specs.declared.scene.Scene.{Scene}
use Rattle.scene_model.proofs.Faultless.{tick_is}
use Rattle.run_logs.specs.Merging.{AreRowsOf, NoneBefore, StandInOrder}
use Rattle.step_core.specs.Cores.{past_rows}

-- ---- lists one after another

module _ {X : Type 0} (cmp : X → X → Ordering) where
  -- a list of which no two differ stands in order
  stand_tied : (P : X → Type 0) → ((x y : X) → P x → P y → is_gt (cmp x y) ≡ false) → (xs : List X) → AllByRecursion P xs → StandInOrder cmp xs
  stand_tied P tie [] all = tt
  stand_tied P tie (x ∷ xs) all = (All-weaker P (λ y. is_gt (cmp x y) ≡ false) (λ y p. tie x y all.0 p) xs all.1, stand_tied P tie xs all.1)

  stand_append : (xs ys : List X) → StandInOrder cmp xs → StandInOrder cmp ys → AllByRecursion (NoneBefore cmp ys) xs → StandInOrder cmp (xs ++ ys)
  stand_append [] ys first rest none = rest
  stand_append (x ∷ xs) ys first rest none = (All-append (λ y. is_gt (cmp x y) ≡ false) xs ys first.0 none.0, stand_append xs ys first.1 rest none.1)

  none_of : (P Q : X → Type 0) → ((x y : X) → P x → Q y → is_gt (cmp x y) ≡ false) → (xs ys : List X) → AllByRecursion P xs → AllByRecursion Q ys → AllByRecursion (NoneBefore cmp ys) xs
  none_of P Q before xs ys all each = All-weaker P (NoneBefore cmp ys) (λ x p. All-weaker Q (λ y. is_gt (cmp x y) ≡ false) (λ y q. before x y p q) ys each) xs all

  -- lists that each stand in order, of which none has what comes before an element of an earlier one
  module _ (f : ℕ → List X) (P : ℕ → X → Type 0) (has : (k : ℕ) → AllByRecursion (P k) (f k)) (each : (k : ℕ) → StandInOrder cmp (f k)) (later : (j k : ℕ) (x y : X) → j < k → P j x → P k y → is_gt (cmp x y) ≡ false) where
    stand_each : (from n : ℕ) → StandInOrder cmp (flat_map f (range_with_len from n))
    stand_each from zero = tt
    stand_each from (suc n) = stand_append (f from) (flat_map f (range_with_len (from + 1) n)) (each from) (stand_each (from + 1) n)
        (none_of (P from) Later (λ x y p q. later from q.0 x y q.1 p q.2) (f from) (flat_map f (range_with_len (from + 1) n)) (has from) all_later)
      where
        Later : X → Type 0
        Later y = (k : ℕ) × (from < k) × P k y

        all_later : AllByRecursion Later (flat_map f (range_with_len (from + 1) n))
        all_later = All-flat_map Later f (range_with_len (from + 1) n) (All-range_with_len (λ k. AllByRecursion Later (f k)) (from + 1) n (λ k low. All-weaker (P k) Later (λ y p. (k, omega (arith, low), p)) (f k) (has k)))

-- ---- rows

earlier : (a b : ℕ) (rest : Ordering) → a < b → is_gt (ordering_then (nat_cmp a b) rest) ≡ false
earlier a b rest lt = let t : nat_lt a b ≡ true = lt-ltb a b lt in rw t refl

not_later : (a b : ℕ) → a ≤ b → is_gt (nat_cmp a b) ≡ false
not_later a b le = elim (cases_lt a b) [
  | inl lt ↦ let t : nat_lt a b ≡ true = lt-ltb a b lt in rw t refl
  | inr ge ↦
      let f : nat_lt a b ≡ false = le-ltb a b ge in
      let e : nat_eq a b ≡ true = eq-eqb a b (omega arith) in
      rw (f, e) refl
]

-- a row of an application, with the clock of a step, of a port, and of a rank
abbrev pub IsOfStep : ℕ → ℕ → Row → Type 0
IsOfStep now app row = (row.clock ≡ now) × (row.app ≡ app)

abbrev pub IsOfPort : ℕ → ℕ → ℕ → Row → Type 0
IsOfPort now app port row = (row.clock ≡ now) × (row.app ≡ app) × (row.port ≡ port)

abbrev pub IsOfRank : ℕ → ℕ → ℕ → ℕ → Row → Type 0
IsOfRank now app port rank row = (row.clock ≡ now) × (row.app ≡ app) × (row.port ≡ port) × (row.rank ≡ rank)

ranks_ascend : (now app port r q : ℕ) (x y : Row) → r ≤ q → IsOfRank now app port r x → IsOfRank now app port q y → is_gt (row_cmp x y) ≡ false
ranks_ascend now app port r q x y le is other =
    not_after x.clock y.clock (ordering_then (nat_cmp x.app y.app) (ordering_then (nat_cmp x.port y.port) (nat_cmp x.rank y.rank))) (omega (arith, is.0, other.0))
    (not_after x.app y.app (ordering_then (nat_cmp x.port y.port) (nat_cmp x.rank y.rank)) (omega (arith, is.1, other.1))
    (not_after x.port y.port (nat_cmp x.rank y.rank) (omega (arith, is.2, other.2)) (not_later x.rank y.rank (omega (arith, le, is.3, other.3)))))

ports_ascend : (now app p q : ℕ) (x y : Row) → p < q → IsOfPort now app p x → IsOfPort now app q y → is_gt (row_cmp x y) ≡ false
ports_ascend now app p q x y lt is other =
    not_after x.clock y.clock (ordering_then (nat_cmp x.app y.app) (ordering_then (nat_cmp x.port y.port) (nat_cmp x.rank y.rank))) (omega (arith, is.0, other.0))
    (not_after x.app y.app (ordering_then (nat_cmp x.port y.port) (nat_cmp x.rank y.rank)) (omega (arith, is.1, other.1))
    (earlier x.port y.port (nat_cmp x.rank y.rank) (omega (arith, lt, is.2, other.2))))

module _ (scene : Scene) (table : Table) (a : ℕ) where
  module _ (j p : ℕ) where
    of_rank : (r : ℕ) → AllByRecursion (IsOfRank (clock scene a j) a p r) (rank_rows scene table a j p r)
    of_rank r = All-map_of (IsOfRank (clock scene a j) a p r) (λ item. record { clock = clock scene a j; app = a; port = p; rank = r; item = item }) (λ item. (refl, refl, refl, refl)) _

    abbrev port_rows : List Row
    port_rows = flat_map (rank_rows scene table a j p) (below (rank_count (port_at scene a p).map))

    port_stands : StandInOrder row_cmp port_rows
    port_stands = stand_each row_cmp (rank_rows scene table a j p) (λ r. IsOfRank (clock scene a j) a p r) of_rank
        (λ r. stand_tied row_cmp (IsOfRank (clock scene a j) a p r) (λ x y. ranks_ascend (clock scene a j) a p r r x y (omega arith)) (rank_rows scene table a j p r) (of_rank r))
        (λ r q x y lt. ranks_ascend (clock scene a j) a p r q x y (omega (arith, lt))) 0 (rank_count (port_at scene a p).map)

    of_port : AllByRecursion (IsOfPort (clock scene a j) a p) port_rows
    of_port = All-flat_map (IsOfPort (clock scene a j) a p) (rank_rows scene table a j p) (below (rank_count (port_at scene a p).map))
        (All-of (λ r. AllByRecursion (IsOfPort (clock scene a j) a p) (rank_rows scene table a j p r))
        (λ r. All-weaker (IsOfRank (clock scene a j) a p r) (IsOfPort (clock scene a j) a p) (λ x is. (is.0, is.1, is.2)) (rank_rows scene table a j p r) (of_rank r)) (below (rank_count (port_at scene a p).map)))

  pub step_stands : (j : ℕ) → StandInOrder row_cmp (step_rows scene table a j)
  unfolding step_rows
  step_stands j = stand_each row_cmp (port_rows j) (λ p. IsOfPort (clock scene a j) a p) (of_port j) (port_stands j) (λ p q x y. ports_ascend (clock scene a j) a p q x y) 0 (length (app_at scene a).ports)

  pub of_step : (j : ℕ) → AllByRecursion (IsOfStep (clock scene a j) a) (step_rows scene table a j)
  unfolding step_rows
  of_step j = All-flat_map (IsOfStep (clock scene a j) a) (port_rows j) (below (length (app_at scene a).ports))
      (All-of (λ p. AllByRecursion (IsOfStep (clock scene a j) a) (port_rows j p))
      (λ p. All-weaker (IsOfPort (clock scene a j) a p) (IsOfStep (clock scene a j) a) (λ x is. (is.0, is.1)) (port_rows j p) (of_port j p)) (below (length (app_at scene a).ports)))

-- ---- steps

module _ (scene : Scene) (faultless : IsFaultless scene) (a : ℕ) where
  pub clocks_ascend : (j k : ℕ) → j < k → clock scene a j < clock scene a k
  clocks_ascend j k lt =
      let le : j + 1 ≤ k = omega (arith, lt) in
      let more : (j + 1) * tick scene a ≤ k * tick scene a = mul-le-mul_right (tick scene a) le in
      let some = (tick_is scene faultless a).0 in
      omega arith

  -- the rows of an application's steps, from one up to another, can be merged
  pub past_rows-stand : (from to : ℕ) → AreRowsOf a (past_rows scene a from to)
  past_rows-stand from to = record {
    own = All-flat_map (λ (row : Row). row.app ≡ a) (step_rows scene (history scene) a) (range_with_len from (to - from))
        (All-of (λ j. AllByRecursion (λ (row : Row). row.app ≡ a) (step_rows scene (history scene) a j))
        (λ j. All-weaker (IsOfStep (clock scene a j) a) (λ (row : Row). row.app ≡ a) (λ x is. is.1) (step_rows scene (history scene) a j) (of_step scene (history scene) a j)) (range_with_len from (to - from)));
    order = stand_each row_cmp (step_rows scene (history scene) a) (λ j. IsOfStep (clock scene a j) a) (of_step scene (history scene) a) (step_stands scene (history scene) a)
        (λ j k x y lt is other. earlier x.clock y.clock (ordering_then (nat_cmp x.app y.app) (ordering_then (nat_cmp x.port y.port) (nat_cmp x.rank y.rank))) (let l = clocks_ascend j k lt in omega (arith, l, is.0, other.0))) from (to - from);
  }

-- one step more
pub past_rows-last : (scene : Scene) (a from to : ℕ) → from ≤ to → past_rows scene a from (to + 1) ≡ past_rows scene a from to ++ step_rows scene (history scene) a to
past_rows-last scene a from to le =
    let e : to + 1 - from ≡ (to - from) + 1 = omega arith in
    let last : from + (to - from) ≡ to = omega arith in
    ap (λ n. flat_map (step_rows scene (history scene) a) (range_with_len from n)) e
    ∙ ap (flat_map (step_rows scene (history scene) a)) (range_with_len-more from (to - from))
    ∙ flat_map-append (step_rows scene (history scene) a) (range_with_len from (to - from)) ((from + (to - from)) ∷ [])
    ∙ ap (λ l. past_rows scene a from to ++ l) (append-nil (step_rows scene (history scene) a (from + (to - from))) ∙ ap (step_rows scene (history scene) a) last)
