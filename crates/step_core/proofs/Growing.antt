-- Rows in order, behind which those of later clocks are put.
use Rattle.std.proofs.Common.{ℕ, zero, suc, ◌+◌, ◌<◌, ◌≤◌, ◌≡◌, ◌⊎◌, inl, inr, refl, sym, ◌∙◌, ap, arith, Bool, true, false, nat_eq, nat_lt, not, ◌&&◌, List, [], ◌∷◌, ◌++◌}
use Rattle.std.specs.List.{AllByRecursion, filter, flat_map, range_with_len}
use Rattle.std.specs.List.Sorted.{ties}
use Rattle.std.specs.Ordering.{is_gt, is_lt}
use Rattle.std.proofs.lemmas.Bool.{cases_eq, cases_order, eq-eqb, le-ltb, lt-ltb}
use Rattle.std.proofs.lemmas.List.{append-nil}
use Rattle.std.proofs.lemmas.List.Elements.{filter-append}
use Rattle.music_base.specs.Numbers.{below, in_order}
use Rattle.music_base.proofs.Lists.{All-below, All-flat_map, All-weaker, filter-none, flat_map-agree_within}
use Rattle.music_base.proofs.Sorting.{IsNotAfter, in_order-append, in_order-same_ties}
use Rattle.scene_model.specs.Clocks.{clock}
use Rattle.scene_model.specs.Logs.{row_cmp}
use Rattle.scene_model.specs.declared.row.Row.{Row}
use Rattle.scene_model.specs.declared.scene.Scene.{Scene}
use Rattle.scene_model.proofs.TotalOrders.{row_cmp-total}
use Rattle.step_core.specs.Cores.{past_rows}
use Rattle.step_core.proofs.PastRows.{past_have, past_rows-cut}

-- ---- rows of two applications do not tie

abbrev less : Row → Row → Bool
less x y = is_lt (row_cmp x y)

abbrev tied : Row → Row → Bool
tied v x = ties less v x

less_clock : (x y : Row) → x.clock < y.clock → less x y ≡ true
less_clock x y lt = let t : nat_lt x.clock y.clock ≡ true = lt-ltb x.clock y.clock lt in rw t refl

less_app : (x y : Row) → x.clock ≡ y.clock → x.app < y.app → less x y ≡ true
less_app x y same lt =
    let f : nat_lt x.clock y.clock ≡ false = le-ltb x.clock y.clock (omega (arith, same)) in
    let e : nat_eq x.clock y.clock ≡ true = eq-eqb x.clock y.clock same in
    let t : nat_lt x.app y.app ≡ true = lt-ltb x.app y.app lt in
    rw (f, e, t) refl

not_tied : (x y : Row) → (less x y ≡ true) ⊎ (less y x ≡ true) → tied x y ≡ false
not_tied x y (inl e) = rw e refl
not_tied x y (inr e) = rw e (go (less x y))
  where
    go : (b : Bool) → (not b && false) ≡ false
    go true = refl
    go false = refl

apart : (x y : Row) → (x.app ≡ y.app → ⊥) → tied x y ≡ false
apart x y ne = by_clock (cases_order x.clock y.clock)
  where
    by_app : x.clock ≡ y.clock → ((x.app ≡ y.app) ⊎ ((x.app < y.app) ⊎ (y.app < x.app))) → tied x y ≡ false
    by_app same (inl e) = absurd (ne e)
    by_app same (inr (inl lt)) = not_tied x y (inl (less_app x y same lt))
    by_app same (inr (inr gt)) = not_tied x y (inr (less_app y x (sym same) gt))

    by_clock : ((x.clock ≡ y.clock) ⊎ ((x.clock < y.clock) ⊎ (y.clock < x.clock))) → tied x y ≡ false
    by_clock (inl e) = by_app e (cases_order x.app y.app)
    by_clock (inr (inl lt)) = not_tied x y (inl (less_clock x y lt))
    by_clock (inr (inr gt)) = not_tied x y (inr (less_clock y x gt))

not_after : (x y : Row) → x.clock < y.clock → is_gt (row_cmp x y) ≡ false
not_after x y lt = let t : nat_lt x.clock y.clock ≡ true = lt-ltb x.clock y.clock lt in rw t refl

-- ---- lists of which one has all that counts

filter-flat_map : (p : Row → Bool) (f : ℕ → List Row) (xs : List ℕ) → filter p (flat_map f xs) ≡ flat_map (λ a. filter p (f a)) xs
filter-flat_map p f [] = refl
filter-flat_map p f (x ∷ xs) = filter-append p (f x) (flat_map f xs) ∙ ap (λ ys. filter p (f x) ++ ys) (filter-flat_map p f xs)

none_from : (f : ℕ → List Row) (from n : ℕ) → ((a : ℕ) → from ≤ a → f a ≡ []) → flat_map f (range_with_len from n) ≡ []
none_from f from zero none = refl
none_from f from (suc n) none =
    let first : f from ≡ [] = none from (omega arith) in
    rw first (none_from f (from + 1) n (λ a le. none a (omega (arith, le))))

-- of lists that are empty at all places but one, both behind each other at each place are all of the first and then all of the second
one_place : (f g : ℕ → List Row) (place : ℕ) → ((a : ℕ) → (a ≡ place → ⊥) → f a ≡ []) → ((a : ℕ) → (a ≡ place → ⊥) → g a ≡ []) → (from n : ℕ)
    → flat_map (λ a. f a ++ g a) (range_with_len from n) ≡ flat_map f (range_with_len from n) ++ flat_map g (range_with_len from n)
one_place f g place none_f none_g from zero = refl
one_place f g place none_f none_g from (suc n) = by_place (cases_eq from place) (one_place f g place none_f none_g (from + 1) n)
  where
    by_place : (from ≡ place) ⊎ (from ≡ place → ⊥)
        → flat_map (λ a. f a ++ g a) (range_with_len (from + 1) n) ≡ flat_map f (range_with_len (from + 1) n) ++ flat_map g (range_with_len (from + 1) n)
        → (f from ++ g from) ++ flat_map (λ a. f a ++ g a) (range_with_len (from + 1) n) ≡ (f from ++ flat_map f (range_with_len (from + 1) n)) ++ (g from ++ flat_map g (range_with_len (from + 1) n))
    by_place (inl here) rest =
        let no_f : flat_map f (range_with_len (from + 1) n) ≡ [] = none_from f (from + 1) n (λ a le. none_f a (λ e. omega (arith, e, le, here))) in
        let no_g : flat_map g (range_with_len (from + 1) n) ≡ [] = none_from g (from + 1) n (λ a le. none_g a (λ e. omega (arith, e, le, here))) in
        let no_both : flat_map (λ a. f a ++ g a) (range_with_len (from + 1) n) ≡ [] = none_from (λ a. f a ++ g a) (from + 1) n (λ a le. let e = none_f a (λ e. omega (arith, e, le, here)) in let d = none_g a (λ e. omega (arith, e, le, here)) in rw (e, d) refl) in
        rw (no_f, no_g, no_both) (append-nil (f from ++ g from) ∙ ap (λ l. l ++ g from) (sym (append-nil (f from))) ∙ ap (λ l. (f from ++ []) ++ l) (sym (append-nil (g from))))
    by_place (inr other) rest =
        let no_f : f from ≡ [] = none_f from other in
        let no_g : g from ≡ [] = none_g from other in
        rw (no_f, no_g) rest

-- ---- rows of each application, and more of them

module _ (f g : ℕ → List Row) (n : ℕ) (own_f : (a : ℕ) → AllByRecursion (λ row. row.app ≡ a) (f a)) (own_g : (a : ℕ) → AllByRecursion (λ row. row.app ≡ a) (g a)) where
  none_tied : (h : ℕ → List Row) → ((a : ℕ) → AllByRecursion (λ row. row.app ≡ a) (h a)) → (v : Row) (a : ℕ) → (a ≡ v.app → ⊥) → filter (ties less v) (h a) ≡ []
  none_tied h own v a ne = filter-none (ties less v) (h a) (All-weaker (λ row. row.app ≡ a) (λ row. tied v row ≡ false) (λ row e. apart v row (λ same. ne (sym e ∙ sym same))) (h a) (own a))

  same_ties : (v : Row) → filter (ties less v) (flat_map (λ a. f a ++ g a) (below n)) ≡ filter (ties less v) (flat_map f (below n) ++ flat_map g (below n))
  same_ties v =
      filter-flat_map (ties less v) (λ a. f a ++ g a) (below n)
      ∙ flat_map-agree_within (λ a. filter (ties less v) (f a ++ g a)) (λ a. filter (ties less v) (f a) ++ filter (ties less v) (g a)) 0 n (λ a low high. filter-append (ties less v) (f a) (g a))
      ∙ one_place (λ a. filter (ties less v) (f a)) (λ a. filter (ties less v) (g a)) v.app (none_tied f own_f v) (none_tied g own_g v) 0 n
      ∙ ap (λ rows. rows ++ flat_map (λ a. filter (ties less v) (g a)) (below n)) (sym (filter-flat_map (ties less v) f (below n)))
      ∙ ap (λ rows. filter (ties less v) (flat_map f (below n)) ++ rows) (sym (filter-flat_map (ties less v) g (below n)))
      ∙ sym (filter-append (ties less v) (flat_map f (below n)) (flat_map g (below n)))

  order_grows : AllByRecursion (IsNotAfter row_cmp (flat_map g (below n))) (flat_map f (below n))
      → in_order row_cmp (flat_map (λ a. f a ++ g a) (below n)) ≡ in_order row_cmp (flat_map f (below n)) ++ in_order row_cmp (flat_map g (below n))
  order_grows before =
      in_order-same_ties row_cmp row_cmp-total (flat_map (λ a. f a ++ g a) (below n)) (flat_map f (below n) ++ flat_map g (below n)) same_ties
      ∙ in_order-append row_cmp (flat_map f (below n)) (flat_map g (below n)) before

-- ---- the rows of first steps, and those of later ones

module _ (scene : Scene) (n : ℕ) (mid to : ℕ → ℕ) (high : (a : ℕ) → a < n → mid a ≤ to a)
    (in_front : (a b j k : ℕ) → a < n → b < n → j < mid a → mid b ≤ k → k < to b → clock scene a j < clock scene b k) where
  none_after : AllByRecursion (IsNotAfter row_cmp (flat_map (λ b. past_rows scene b (mid b) (to b)) (below n))) (flat_map (λ a. past_rows scene a 0 (mid a)) (below n))
  none_after =
      All-flat_map (IsNotAfter row_cmp (flat_map (λ b. past_rows scene b (mid b) (to b)) (below n))) (λ a. past_rows scene a 0 (mid a)) (below n)
      (All-below (λ a. AllByRecursion (IsNotAfter row_cmp (flat_map (λ b. past_rows scene b (mid b) (to b)) (below n))) (past_rows scene a 0 (mid a))) n
      (λ a small. past_have scene a (IsNotAfter row_cmp (flat_map (λ b. past_rows scene b (mid b) (to b)) (below n))) 0 (mid a)
      (λ j l h p r item.
      let x : Row = record { clock = clock scene a j; app = a; port = p; rank = r; item = item } in
      All-flat_map (λ y. is_gt (row_cmp x y) ≡ false) (λ b. past_rows scene b (mid b) (to b)) (below n)
      (All-below (λ b. AllByRecursion (λ y. is_gt (row_cmp x y) ≡ false) (past_rows scene b (mid b) (to b))) n
      (λ b within. past_have scene b (λ y. is_gt (row_cmp x y) ≡ false) (mid b) (to b)
      (λ k low up q s other. not_after x (record { clock = clock scene b k; app = b; port = q; rank = s; item = other }) (in_front a b j k small within h low up)))))))

  pub rows_grow : in_order row_cmp (flat_map (λ a. past_rows scene a 0 (to a)) (below n)) ≡ in_order row_cmp (flat_map (λ a. past_rows scene a 0 (mid a)) (below n)) ++ in_order row_cmp (flat_map (λ a. past_rows scene a (mid a) (to a)) (below n))
  rows_grow =
      ap (in_order row_cmp) (flat_map-agree_within (λ a. past_rows scene a 0 (to a)) (λ a. past_rows scene a 0 (mid a) ++ past_rows scene a (mid a) (to a)) 0 n (λ a l h. sym (past_rows-cut scene a 0 (mid a) (to a) (omega arith) (high a (omega (arith, h))))))
      ∙ order_grows (λ a. past_rows scene a 0 (mid a)) (λ a. past_rows scene a (mid a) (to a)) n
      (λ a. past_have scene a (λ row. row.app ≡ a) 0 (mid a) (λ k l h p r item. refl)) (λ a. past_have scene a (λ row. row.app ≡ a) (mid a) (to a) (λ k l h p r item. refl)) none_after
