-- Lists in order, merged step by step: what comes first of all of them is put in front.
use Rattle.std.proofs.Common.{◌≡◌, ℕ, zero, suc, ◌<◌, Bool, true, false, List, [], ◌∷◌, ◌++◌, length, refl, sym, ap, ◌∙◌, append_assoc, arith}
use Rattle.std.specs.Prelude.{map, slice_index_or, slice_set}
use Rattle.std.specs.List.{AllByRecursion, filter, flat_map}
use Rattle.std.specs.Ordering.{is_gt}
use Rattle.std.specs.declared.cmp.Ordering.{Ordering}
use Rattle.music_base.specs.Numbers.{in_order, put_in_order}
use Rattle.music_base.proofs.Lists.{All-append, All-filter, All-in_order, All-of, All-weaker}
use Rattle.run_logs.specs.Merging.{NoneBefore, StandInOrder}

-- what holds of each element by two others does
pub All-both : {X : Type 0} (P Q R : X → Type 0) → ((x : X) → P x → Q x → R x) → (xs : List X) → AllByRecursion P xs → AllByRecursion Q xs → AllByRecursion R xs
All-both P Q R f [] p q = tt
All-both P Q R f (x ∷ xs) p q = (f x p.0 q.0, All-both P Q R f xs p.1 q.1)

filter-front : {X : Type 0} (p : X → Bool) (step rest : List X) → AllByRecursion (λ x. p x ≡ true) step → filter p (step ++ rest) ≡ step ++ filter p rest
filter-front p [] rest all = refl
filter-front p (x ∷ step) rest all = rw all.0 (ap (λ xs. x ∷ xs) (filter-front p step rest all.1))

pub filter-behind : {X : Type 0} (p : X → Bool) (step rest : List X) → AllByRecursion (λ x. p x ≡ false) step → filter p (step ++ rest) ≡ filter p rest
filter-behind p [] rest all = refl
filter-behind p (x ∷ step) rest all = rw all.0 (filter-behind p step rest all.1)

-- what is dropped of one list by a step that no list keeps
pub kept_same : {X : Type 0} (p : X → Bool) (held : List (List X)) (place : ℕ) (step rest : List X) → place < length held
    → slice_index_or held place [] ≡ step ++ rest → AllByRecursion (λ x. p x ≡ false) step → map (filter p) (slice_set held place rest) ≡ map (filter p) held
kept_same p [] place step rest lt is dropped = absurd (omega arith)
kept_same p (xs ∷ held) zero step rest lt is dropped =
    ap (λ ys. ys ∷ map (filter p) held) (sym (ap (filter p) is ∙ filter-behind p step rest dropped))
kept_same p (xs ∷ held) (suc place) step rest lt is dropped = ap (λ ys. filter p xs ∷ ys) (kept_same p held place step rest (omega arith) is dropped)

module _ {X : Type 0} (cmp : X → X → Ordering) where
  -- y comes after each of xs
  abbrev pub AfterAll : List X → X → Type 0
  AfterAll xs y = AllByRecursion (λ x. is_gt (cmp y x) ≡ true) xs

  put_behind : (x : X) (step xs : List X) → AfterAll step x → put_in_order cmp x (step ++ xs) ≡ step ++ put_in_order cmp x xs
  put_behind x [] xs after = refl
  put_behind x (y ∷ step) xs after = rw after.0 (ap (λ ys. y ∷ ys) (put_behind x step xs after.1))

  put_in_front : (x : X) (xs : List X) → NoneBefore cmp xs x → put_in_order cmp x xs ≡ x ∷ xs
  put_in_front x [] none = refl
  put_in_front x (y ∷ xs) none = rw none.0 refl

  -- elements that come after the whole step do not change that it stands in front
  order_behind : (xs ys zs step : List X) → AllByRecursion (AfterAll step) xs → in_order cmp ys ≡ step ++ in_order cmp zs
      → in_order cmp (xs ++ ys) ≡ step ++ in_order cmp (xs ++ zs)
  order_behind [] ys zs step after ordered = ordered
  order_behind (x ∷ xs) ys zs step after ordered =
      rw (order_behind xs ys zs step after.1 ordered) (put_behind x step (in_order cmp (xs ++ zs)) after.0)

  -- a step that stands in order, and before which nothing comes, stands in front
  order_in_front : (step ys : List X) → StandInOrder cmp step → AllByRecursion (NoneBefore cmp ys) step → in_order cmp (step ++ ys) ≡ step ++ in_order cmp ys
  order_in_front [] ys ordered none = refl
  order_in_front (x ∷ step) ys ordered none =
      rw (order_in_front step ys ordered.1 none.1)
      (put_in_front x (step ++ in_order cmp ys)
      (All-append (λ y. is_gt (cmp x y) ≡ false) step (in_order cmp ys) ordered.0 (All-in_order (λ y. is_gt (cmp x y) ≡ false) cmp ys none.0)))

  stand_in_front : (step rest : List X) → StandInOrder cmp (step ++ rest) → StandInOrder cmp step
  stand_in_front [] rest order = tt
  stand_in_front (x ∷ step) rest order = (front (λ y. is_gt (cmp x y) ≡ false) step rest order.0, stand_in_front step rest order.1)
    where
      front : (P : X → Type 0) (xs ys : List X) → AllByRecursion P (xs ++ ys) → AllByRecursion P xs
      front P [] ys all = tt
      front P (x ∷ xs) ys all = (all.0, front P xs ys all.1)

  -- of the rest of a list in order nothing comes before what stands in front
  none_before_front : (step rest : List X) → StandInOrder cmp (step ++ rest) → AllByRecursion (NoneBefore cmp rest) step
  none_before_front [] rest order = tt
  none_before_front (x ∷ step) rest order = (back (λ y. is_gt (cmp x y) ≡ false) step rest order.0, none_before_front step rest order.1)
    where
      back : (P : X → Type 0) (xs ys : List X) → AllByRecursion P (xs ++ ys) → AllByRecursion P ys
      back P [] ys all = all
      back P (x ∷ xs) ys all = back P xs ys all.1

  pub stand_behind : (step rest : List X) → StandInOrder cmp (step ++ rest) → StandInOrder cmp rest
  stand_behind [] rest order = order
  stand_behind (x ∷ step) rest order = stand_behind step rest order.1

  none_of_two : (xs ys step : List X) → AllByRecursion (NoneBefore cmp xs) step → AllByRecursion (NoneBefore cmp ys) step → AllByRecursion (NoneBefore cmp (xs ++ ys)) step
  none_of_two xs ys step = All-both (NoneBefore cmp xs) (NoneBefore cmp ys) (NoneBefore cmp (xs ++ ys)) (λ x. All-append (λ y. is_gt (cmp x y) ≡ false) xs ys) step

  module _ (p : X → Bool) where
    none_of_passed : (xs step : List X) → AllByRecursion (NoneBefore cmp xs) step → AllByRecursion (NoneBefore cmp (filter p xs)) step
    none_of_passed xs step = All-weaker (NoneBefore cmp xs) (NoneBefore cmp (filter p xs)) (λ x. All-filter (λ y. is_gt (cmp x y) ≡ false) p xs) step

    none_of_all : (held : List (List X)) (step : List X) → ((i : ℕ) → AllByRecursion (NoneBefore cmp (slice_index_or held i [])) step)
        → AllByRecursion (NoneBefore cmp (flat_map (filter p) held)) step
    none_of_all [] step none = All-of (NoneBefore cmp []) (λ x. tt) step
    none_of_all (xs ∷ held) step none = none_of_two (filter p xs) (flat_map (filter p) held) step (none_of_passed xs step (none 0)) (none_of_all held step (λ i. none (suc i)))

    -- The front of one list stands in front of all that pass, put in order, where it comes before all of the lists
    -- above, and nothing of those below comes before it.
    pub step_in_front : (held : List (List X)) (place : ℕ) (step rest : List X) → place < length held → slice_index_or held place [] ≡ step ++ rest
        → AllByRecursion (λ x. p x ≡ true) step → StandInOrder cmp (step ++ rest)
        → ((i : ℕ) → i < place → AllByRecursion (AfterAll step) (slice_index_or held i []))
        → ((i : ℕ) → place < i → AllByRecursion (NoneBefore cmp (slice_index_or held i [])) step)
        → in_order cmp (flat_map (filter p) held) ≡ step ++ in_order cmp (flat_map (filter p) (slice_set held place rest))
    step_in_front [] place step rest lt is pass order above under = absurd (omega arith)
    step_in_front (xs ∷ held) zero step rest lt is pass order above under =
        let front : filter p xs ++ flat_map (filter p) held ≡ step ++ (filter p rest ++ flat_map (filter p) held) =
        ap (λ ys. ys ++ flat_map (filter p) held) (ap (filter p) is ∙ filter-front p step rest pass) ∙ append_assoc step (filter p rest) (flat_map (filter p) held) in
        let none : AllByRecursion (NoneBefore cmp (filter p rest ++ flat_map (filter p) held)) step =
        none_of_two (filter p rest) (flat_map (filter p) held) step (none_of_passed rest step (none_before_front step rest order)) (none_of_all held step (λ i. under (suc i) (omega arith))) in
        ap (in_order cmp) front ∙ order_in_front step (filter p rest ++ flat_map (filter p) held) (stand_in_front step rest order) none
    step_in_front (xs ∷ held) (suc place) step rest lt is pass order above under =
        order_behind (filter p xs) (flat_map (filter p) held) (flat_map (filter p) (slice_set held place rest)) step
        (All-filter (AfterAll step) p xs (above 0 (omega arith)))
        (step_in_front held place step rest (omega arith) is pass order (λ i lt. above (suc i) (omega arith)) (λ i lt. under (suc i) (omega arith)))
