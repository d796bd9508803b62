-- The rows of an application's steps, cut in two.
use Rattle.std.proofs.Common.{ℕ, ◌+◌, ◌-◌, ◌<◌, ◌≤◌, ◌≡◌, refl, sym, ◌∙◌, ap, arith, Bool, true, false, not, List, [], ◌∷◌, ◌++◌, length}
use Rattle.std.specs.List.{AllByRecursion, filter, flat_map, range_with_len}
use Rattle.std.proofs.lemmas.Bool.{le-ltb, lt-ltb}
use Rattle.std.proofs.lemmas.List.{append-nil}
use Rattle.std.proofs.lemmas.List.Concat.{flat_map-append}
use Rattle.std.proofs.lemmas.List.Elements.{filter-append}
use Rattle.music_base.specs.Numbers.{below}
use Rattle.music_base.proofs.Lists.{All-between, All-flat_map, All-flat_map_of, All-map_of, All-weaker, filter-none, range_with_len-append}
use Rattle.index_maps.specs.Maps.{rank_count}
use Rattle.scene_model.specs.Clocks.{clock}
use Rattle.scene_model.specs.Lives.{history}
use Rattle.scene_model.specs.Logs.{rank_rows, step_rows}
use Rattle.scene_model.specs.Scenes.{app_at, port_at}
use Rattle.scene_model.specs.declared.row.Row.{Row}
use Rattle.scene_model.specs.declared.row.RowItem.{RowItem}
use Rattle.scene_model.specs.declared.scene.Scene.{Scene}
use Rattle.run_logs.specs.Merging.{is_before, is_kept}
use Rattle.step_core.specs.Cores.{past_rows}

filter-every : {X : Type 0} (p : X → Bool) (xs : List X) → AllByRecursion (λ x. p x ≡ true) xs → filter p xs ≡ xs
filter-every p [] all = refl
filter-every p (x ∷ xs) all = rw all.0 (ap (λ ys. x ∷ ys) (filter-every p xs all.1))

module _ (scene : Scene) (a : ℕ) where
  abbrev row_at : ℕ → ℕ → ℕ → RowItem → Row
  row_at k p r item = record { clock = clock scene a k; app = a; port = p; rank = r; item = item }

  -- what holds of each row of a step with the step's clock and application
  step_has : (P : Row → Type 0) (k : ℕ) → ((p r : ℕ) (item : RowItem) → P (row_at k p r item)) → AllByRecursion P (step_rows scene (history scene) a k)
  unfolding step_rows
  step_has P k each =
      All-flat_map_of P (λ p. flat_map (rank_rows scene (history scene) a k p) (below (rank_count (port_at scene a p).map)))
      (λ p. All-flat_map_of P (rank_rows scene (history scene) a k p) (λ r. All-map_of P (row_at k p r) (each p r) _) (below (rank_count (port_at scene a p).map)))
      (below (length (app_at scene a).ports))

  -- and of each row of the steps from one up to another
  pub past_have : (P : Row → Type 0) (from to : ℕ) → ((k : ℕ) → from ≤ k → k < to → (p r : ℕ) (item : RowItem) → P (row_at k p r item)) → AllByRecursion P (past_rows scene a from to)
  past_have P from to each =
      All-flat_map P (step_rows scene (history scene) a) (range_with_len from (to - from))
      (All-between (λ k. AllByRecursion P (step_rows scene (history scene) a k)) from (to - from) (λ k low high. step_has P k (each k low (omega arith))))

  -- the rows of the first steps
  pub past_rows-first : (n : ℕ) → past_rows scene a 0 n ≡ flat_map (step_rows scene (history scene) a) (below n)
  past_rows-first n = let e : n - 0 ≡ n = omega arith in ap (λ m. flat_map (step_rows scene (history scene) a) (range_with_len 0 m)) e

  pub past_rows-cut : (from mid to : ℕ) → from ≤ mid → mid ≤ to → past_rows scene a from mid ++ past_rows scene a mid to ≡ past_rows scene a from to
  past_rows-cut from mid to low high =
      let at : from + (mid - from) ≡ mid = omega arith in
      let all : (mid - from) + (to - mid) ≡ to - from = omega arith in
      sym (flat_map-append (step_rows scene (history scene) a) (range_with_len from (mid - from)) (range_with_len mid (to - mid)))
      ∙ ap (λ n. flat_map (step_rows scene (history scene) a) (range_with_len from (mid - from) ++ range_with_len n (to - mid))) (sym at)
      ∙ ap (flat_map (step_rows scene (history scene) a)) (range_with_len-append from (mid - from) (to - mid))
      ∙ ap (λ n. flat_map (step_rows scene (history scene) a) (range_with_len from n)) all

  -- a clock cuts them where the steps before it end
  module _ (least from mid to : ℕ) (low : from ≤ mid) (high : mid ≤ to) (early : (k : ℕ) → k < mid → clock scene a k < least) (late : (k : ℕ) → mid ≤ k → k < to → least ≤ clock scene a k) where
    all_early : AllByRecursion (λ row. is_before least row ≡ true) (past_rows scene a from mid)
    all_early = past_have (λ row. is_before least row ≡ true) from mid (λ k l h p r item. lt-ltb (clock scene a k) least (early k h))

    all_late : AllByRecursion (λ row. is_before least row ≡ false) (past_rows scene a mid to)
    all_late = past_have (λ row. is_before least row ≡ false) mid to (λ k l h p r item. le-ltb (clock scene a k) least (late k l h))

    pub past-before : filter (is_before least) (past_rows scene a from to) ≡ past_rows scene a from mid
    past-before =
        ap (filter (is_before least)) (sym (past_rows-cut from mid to low high))
        ∙ filter-append (is_before least) (past_rows scene a from mid) (past_rows scene a mid to)
        ∙ ap (λ rows. rows ++ filter (is_before least) (past_rows scene a mid to)) (filter-every (is_before least) (past_rows scene a from mid) all_early)
        ∙ ap (λ rows. past_rows scene a from mid ++ rows) (filter-none (is_before least) (past_rows scene a mid to) all_late)
        ∙ append-nil (past_rows scene a from mid)

    pub past-kept : filter (is_kept least) (past_rows scene a from to) ≡ past_rows scene a mid to
    past-kept =
        ap (filter (is_kept least)) (sym (past_rows-cut from mid to low high))
        ∙ filter-append (is_kept least) (past_rows scene a from mid) (past_rows scene a mid to)
        ∙ ap (λ rows. rows ++ filter (is_kept least) (past_rows scene a mid to)) (filter-none (is_kept least) (past_rows scene a from mid) none_kept)
        ∙ filter-every (is_kept least) (past_rows scene a mid to) every_kept
      where
        none_kept : AllByRecursion (λ row. is_kept least row ≡ false) (past_rows scene a from mid)
        none_kept = All-weaker (λ row. is_before least row ≡ true) (λ row. is_kept least row ≡ false) (λ row e. ap not e) (past_rows scene a from mid) all_early

        every_kept : AllByRecursion (λ row. is_kept least row ≡ true) (past_rows scene a mid to)
        every_kept = All-weaker (λ row. is_before least row ≡ false) (λ row. is_kept least row ≡ true) (λ row e. ap not e) (past_rows scene a mid to) all_late
