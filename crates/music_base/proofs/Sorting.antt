-- What a stable sort leaves is the list in order, and how a list in order is made of parts.
use Rattle.std.proofs.Common.{suc, ◌+◌, ◌≡◌, refl, sym, ◌∙◌, ap, inl, inr, arith, List, [], ◌∷◌, ◌++◌, map, Bool, true, false, cond, not, ◌&&◌, Less, Equal, Greater}
use Rattle.std.specs.declared.cmp.Ordering.{Ordering}
use Rattle.std.specs.Ordering.{is_lt, is_gt, ordering_reverse}
use Rattle.std.specs.Cmp.{IsTotalOrder, IsStrictWeakOrder}
use Rattle.std.specs.List.{AllByRecursion, filter}
use Rattle.std.specs.Fn.{Called, ComparesAs}
use Rattle.std.specs.List.Sorted.{IsSorted, IsSortedBy, IsStable, IsStableBy, ties}
use Rattle.std.proofs.lemmas.Fn.{always_returns_same}
use denote.Bor.{Bor}
use denote.Param.Members.{Mut}
use Rattle.std.proofs.lemmas.Bool.{cases_Bool}
use Rattle.std.proofs.lemmas.List.Sorted.{sorted_far, ranks_by}
use Rattle.std.proofs.lemmas.List.Elements.{recursion_from_All}
use Rattle.music_base.specs.Numbers.{put_in_order, in_order}
use Rattle.music_base.proofs.Lists.{All-in_order, All-put_in_order, All-weaker}
use Rattle.music_base.proofs.Ordered.{Pairwise, Pairwise-filter, put_in_order-front}

-- no element is less than one before it
abbrev pub Ascends : {X : Type 0} → (X → X → Bool) → List X → Type 0
Ascends lt xs = Pairwise (λ x y. lt y x ≡ false) xs

-- ---- two ascending lists with the same ties are the same

module _ {X : Type 0} (lt : X → X → Bool) (o : IsStrictWeakOrder lt) where
  irreflexive : (x : X) → lt x x ≡ false
  irreflexive x = go (lt x x) refl
    where
      go : (b : Bool) → lt x x ≡ b → lt x x ≡ false
      go true e = o.one_way x x e
      go false e = e

  ties_from : (x y : X) → lt x y ≡ false → lt y x ≡ false → ties lt x y ≡ true
  ties_from x y e f = rw (e, f) refl

  not_less : (x y : X) → ties lt x y ≡ true → (lt x y ≡ false) × (lt y x ≡ false)
  not_less x y h = go (lt x y) (lt y x) refl refl h
    where
      go : (b c : Bool) → lt x y ≡ b → lt y x ≡ c → (not b && not c) ≡ true → (lt x y ≡ false) × (lt y x ≡ false)
      go false false e f t = (e, f)
      go false true e f t = cc
      go true false e f t = cc
      go true true e f t = cc

  -- where none of them is less than y and one of them ties with z, z isn't either
  some_tie : (z y w : X) (rest ws : List X) → AllByRecursion (λ v. lt v y ≡ false) ws → filter (ties lt z) ws ≡ w ∷ rest → lt z y ≡ false
  some_tie z y w rest [] all e = cc
  some_tie z y w rest (v ∷ ws) all e = go (ties lt z v) refl e (some_tie z y w rest ws all.1)
    where
      go : (b : Bool) → ties lt z v ≡ b → cond b (v ∷ filter (ties lt z) ws) (filter (ties lt z) ws) ≡ w ∷ rest → (filter (ties lt z) ws ≡ w ∷ rest → lt z y ≡ false) → lt z y ≡ false
      go true t f more = o.chain z v y (not_less z v t).0 all.0
      go false t f more = more f

  -- an element ties with itself
  keep : (x : X) (xs : List X) → filter (ties lt x) (x ∷ xs) ≡ x ∷ filter (ties lt x) xs
  keep x xs = rw (ties_from x x (irreflexive x) (irreflexive x)) refl

  pub same_ascending : (ys zs : List X) → Ascends lt ys → Ascends lt zs → ((x : X) → filter (ties lt x) ys ≡ filter (ties lt x) zs) → ys ≡ zs
  same_ascending [] [] up_y up_z same = refl
  same_ascending (y ∷ ys) [] up_y up_z same = let e : y ∷ filter (ties lt y) ys ≡ [] = sym (keep y ys) ∙ same y in cc
  same_ascending [] (z ∷ zs) up_y up_z same = let e : [] ≡ z ∷ filter (ties lt z) zs = same z ∙ keep z zs in cc
  same_ascending (y ∷ ys) (z ∷ zs) up_y up_z same = join (same_ascending ys zs up_y.1 up_z.1)
    where
      z_y : lt z y ≡ false
      z_y = some_tie z y z (filter (ties lt z) zs) (y ∷ ys) (irreflexive y, up_y.0) (same z ∙ keep z zs)

      y_z : lt y z ≡ false
      y_z = some_tie y z y (filter (ties lt y) ys) (z ∷ zs) (irreflexive z, up_z.0) (sym (same y) ∙ keep y ys)

      heads : y ≡ z
      heads =
          let t : ties lt y z ≡ true = ties_from y z y_z z_y in
          let k : filter (ties lt y) (z ∷ zs) ≡ z ∷ filter (ties lt y) zs = rw t refl in
          let e : y ∷ filter (ties lt y) ys ≡ z ∷ filter (ties lt y) zs = sym (keep y ys) ∙ same y ∙ k in cc

      tails : (x : X) → filter (ties lt x) ys ≡ filter (ties lt x) zs
      tails x = go (ties lt x z) (rw heads at (same x))
        where
          go : (b : Bool) → cond b (z ∷ filter (ties lt x) ys) (filter (ties lt x) ys) ≡ cond b (z ∷ filter (ties lt x) zs) (filter (ties lt x) zs) → filter (ties lt x) ys ≡ filter (ties lt x) zs
          go true e = cc
          go false e = e

      join : (((x : X) → filter (ties lt x) ys ≡ filter (ties lt x) zs) → ys ≡ zs) → y ∷ ys ≡ z ∷ zs
      join rest = let t = rest tails in let h = heads in cc

  -- what a sort ensures, element by element
  pub ascends_from_sorted : (xs : List X) → IsSortedBy lt xs → Ascends lt xs
  ascends_from_sorted [] up = tt
  ascends_from_sorted (x ∷ xs) up = (
    recursion_from_All (λ y. lt y x ≡ false) xs (λ k d l. sorted_far lt o (x ∷ xs) up 0 (suc k) d (omega arith) (omega arith)),
    ascends_from_sorted xs (λ k d low l. let e : suc k + 1 ≡ suc (k + 1) = omega arith in rw e at (up (suc k) d (omega arith) (omega arith))),
  )

filter-swap : {X : Type 0} (p q : X → Bool) (xs : List X) → filter p (filter q xs) ≡ filter q (filter p xs)
filter-swap p q [] = refl
filter-swap p q (x ∷ xs) = elim (cases_Bool (q x)) [
  | inl t ↦ elim (cases_Bool (p x)) [ inl u ↦ rw (t, u) (rw t (ap (λ ys. x ∷ ys) (filter-swap p q xs))) | inr u ↦ rw (t, u) (filter-swap p q xs) ]
  | inr t ↦ elim (cases_Bool (p x)) [ inl u ↦ rw (t, u) (rw t (filter-swap p q xs)) | inr u ↦ rw (t, u) (filter-swap p q xs) ]
]

-- ---- putting in order is a stable sort

module _ {X : Type 0} (cmp : X → X → Ordering) (o : IsTotalOrder cmp) where
  abbrev less : X → X → Bool
  less x y = is_lt (cmp x y)

  weak : IsStrictWeakOrder (λ x y. is_lt (cmp x y))
  weak = ranks_by o (λ (x : X). x)

  gt_is : (x y : X) → is_gt (cmp x y) ≡ is_lt (cmp y x)
  gt_is x y = rw (o.antisymm x y) (reversed (cmp y x))
    where
      reversed : (r : Ordering) → is_gt (ordering_reverse r) ≡ is_lt r
      reversed Less = refl
      reversed Equal = refl
      reversed Greater = refl

  put_ascends : (x : X) (ys : List X) → Ascends less ys → Ascends less (put_in_order cmp x ys)
  put_ascends x [] up = (tt, tt)
  put_ascends x (y ∷ ys) up = go (is_gt (cmp x y)) refl (put_ascends x ys up.1)
    where
      go : (b : Bool) → is_gt (cmp x y) ≡ b → Ascends less (put_in_order cmp x ys) → Ascends less (cond b (y ∷ put_in_order cmp x ys) (x ∷ y ∷ ys))
      go true e rest = let l : less y x ≡ true = sym (gt_is x y) ∙ e in (All-put_in_order (λ w. less w y ≡ false) cmp x ys (weak.one_way y x l) up.0, rest)
      go false e rest =
          let l : less y x ≡ false = sym (gt_is x y) ∙ e in
          ((l, All-weaker (λ w. less w y ≡ false) (λ w. less w x ≡ false) (λ w h. weak.chain w y x h l) ys up.0), up)

  pub in_order_ascends : (xs : List X) → Ascends less (in_order cmp xs)
  in_order_ascends [] = tt
  in_order_ascends (x ∷ xs) = put_ascends x (in_order cmp xs) (in_order_ascends xs)

  put_stable : (v x : X) (ys : List X) → filter (ties less v) (put_in_order cmp x ys) ≡ filter (ties less v) (x ∷ ys)
  put_stable v x [] = refl
  put_stable v x (y ∷ ys) = go (is_gt (cmp x y)) refl (put_stable v x ys)
    where
      apart : less y x ≡ true → (b c : Bool) → ties less v x ≡ b → ties less v y ≡ c → (F : List X)
          → cond c (y ∷ cond b (x ∷ F) F) (cond b (x ∷ F) F) ≡ cond b (x ∷ cond c (y ∷ F) F) (cond c (y ∷ F) F)
      apart l true true e f F = let n : less y x ≡ false = weak.chain y v x (not_less less weak v y f).1 (not_less less weak v x e).0 in cc
      apart l true false e f F = refl
      apart l false true e f F = refl
      apart l false false e f F = refl

      go : (b : Bool) → is_gt (cmp x y) ≡ b → filter (ties less v) (put_in_order cmp x ys) ≡ filter (ties less v) (x ∷ ys)
          → filter (ties less v) (cond b (y ∷ put_in_order cmp x ys) (x ∷ y ∷ ys)) ≡ filter (ties less v) (x ∷ y ∷ ys)
      go true e rest = ap (λ zs. cond (ties less v y) (y ∷ zs) zs) rest ∙ apart (sym (gt_is x y) ∙ e) (ties less v x) (ties less v y) refl refl (filter (ties less v) ys)
      go false e rest = refl

  pub in_order_stable : (v : X) (xs : List X) → filter (ties less v) (in_order cmp xs) ≡ filter (ties less v) xs
  in_order_stable v [] = refl
  in_order_stable v (x ∷ xs) = put_stable v x (in_order cmp xs) ∙ ap (λ zs. cond (ties less v x) (x ∷ zs) zs) (in_order_stable v xs)

  -- a list that is sorted, and in which what ties kept its order, is the one in order
  pub sorted_is_in_order : (xs ys : List X) → IsSorted cmp ys → IsStable cmp xs ys → ys ≡ in_order cmp xs
  sorted_is_in_order xs ys up stable =
      same_ascending less weak ys (in_order cmp xs) (ascends_from_sorted less weak ys up) (in_order_ascends xs) (λ v. stable v ∙ sym (in_order_stable v xs))

  -- ---- what makes the same order

  -- lists in which what ties stands in the same order
  pub in_order-same_ties : (xs ys : List X) → ((v : X) → filter (ties less v) xs ≡ filter (ties less v) ys) → in_order cmp xs ≡ in_order cmp ys
  in_order-same_ties xs ys same =
      same_ascending less weak (in_order cmp xs) (in_order cmp ys) (in_order_ascends xs) (in_order_ascends ys) (λ v. in_order_stable v xs ∙ same v ∙ sym (in_order_stable v ys))

  -- what is left of a list in order is in order
  pub filter-in_order : (p : X → Bool) (xs : List X) → filter p (in_order cmp xs) ≡ in_order cmp (filter p xs)
  filter-in_order p xs =
      same_ascending less weak (filter p (in_order cmp xs)) (in_order cmp (filter p xs)) (Pairwise-filter (λ x y. less y x ≡ false) p (in_order cmp xs) (in_order_ascends xs)) (in_order_ascends (filter p xs))
      (λ v. filter-swap (ties less v) p (in_order cmp xs) ∙ ap (filter p) (in_order_stable v xs) ∙ filter-swap p (ties less v) xs ∙ sym (in_order_stable v (filter p xs)))

  -- what `sort_by` leaves whose closure answers by the order
  pub sorted_by : {F : Type 0} (g : Mut F (Bor X × (Bor X × Unit {0})) Ordering) (f : F) (xs ys : List X)
      → ((lt : X → X → Bool) → IsStrictWeakOrder lt → ComparesAs g lt f → IsSortedBy lt ys)
      → ((lt : X → X → Bool) → IsStrictWeakOrder lt → ComparesAs g lt f → IsStableBy lt xs ys)
      → ((a : Bor X × (Bor X × Unit {0})) (r : Ordering) (f' : F) → Called g f a r f' → (r ≡ cmp a.0.now a.1.0.now) × (f' ≡ f))
      → ys ≡ in_order cmp xs
  sorted_by g f xs ys sorted stable calls =
      let compares : ComparesAs g less f = always_returns_same g (λ a r. is_lt r ≡ less a.0.now a.1.0.now) f (λ a r f' k. (ap is_lt (calls a r f' k).0, (calls a r f' k).1)) in
      sorted_is_in_order xs ys (sorted less weak compares) (stable less weak compares)

-- ---- parts

-- a function that keeps the order
pub in_order_map : {X Y : Type 0} (f : X → Y) (cmp : X → X → Ordering) (other : Y → Y → Ordering) → ((x y : X) → other (f x) (f y) ≡ cmp x y)
    → (xs : List X) → in_order other (map f xs) ≡ map f (in_order cmp xs)
in_order_map f cmp other same [] = refl
in_order_map {X} f cmp other same (x ∷ xs) = ap (put_in_order other (f x)) (in_order_map f cmp other same xs) ∙ put (in_order cmp xs)
  where
    put : (ys : List X) → put_in_order other (f x) (map f ys) ≡ map f (put_in_order cmp x ys)
    put [] = refl
    put (y ∷ ys) = rw (same x y) (go (is_gt (cmp x y)) (put ys))
      where
        go : (b : Bool) → put_in_order other (f x) (map f ys) ≡ map f (put_in_order cmp x ys) → cond b (f y ∷ put_in_order other (f x) (map f ys)) (f x ∷ f y ∷ map f ys) ≡ map f (cond b (y ∷ put_in_order cmp x ys) (x ∷ y ∷ ys))
        go true rest = ap (λ zs. f y ∷ zs) rest
        go false rest = refl

-- x is after no element of these
abbrev pub IsNotAfter : {X : Type 0} → (X → X → Ordering) → List X → X → Type 0
IsNotAfter cmp ys x = AllByRecursion (λ y. is_gt (cmp x y) ≡ false) ys

put_in_order-append : {X : Type 0} (cmp : X → X → Ordering) (x : X) (xs ys : List X) → IsNotAfter cmp ys x → put_in_order cmp x (xs ++ ys) ≡ put_in_order cmp x xs ++ ys
put_in_order-append cmp x [] ys none = put_in_order-front cmp x ys none
put_in_order-append cmp x (z ∷ xs) ys none = elim (cases_Bool (is_gt (cmp x z))) [
  | inl later ↦ rw later (ap (λ zs. z ∷ zs) (put_in_order-append cmp x xs ys none))
  | inr first ↦ rw first refl
]

-- lists of which no element of the first is after one of the second
pub in_order-append : {X : Type 0} (cmp : X → X → Ordering) (xs ys : List X) → AllByRecursion (IsNotAfter cmp ys) xs → in_order cmp (xs ++ ys) ≡ in_order cmp xs ++ in_order cmp ys
in_order-append cmp [] ys before = refl
in_order-append {X} cmp (x ∷ xs) ys before =
    ap (put_in_order cmp x) (in_order-append cmp xs ys before.1)
    ∙ put_in_order-append cmp x (in_order cmp xs) (in_order cmp ys) (All-in_order (λ (y : X). is_gt (cmp x y) ≡ false) cmp ys before.0)
