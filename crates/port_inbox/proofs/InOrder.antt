-- Lists that are in order, and what a sort leaves.
use Rattle.std.proofs.Common.{suc, ◌+◌, ◌≡◌, refl, arith, List, [], ◌∷◌, length, Bool, true, false, Less, Equal, Greater}
use Rattle.std.specs.declared.cmp.Ordering.{Ordering}
use Rattle.std.specs.Ordering.{is_gt, is_le}
use Rattle.std.specs.Bool.{OnTrue}
use Rattle.std.specs.Fn.{Called, ComputesOnPairs}
use Rattle.std.specs.List.{AllAdjacentBelow, IsAllAdjacentAnswer}
use Rattle.std.proofs.lemmas.Fn.{always_returns_same}
use denote.Param.Members.{Mut}
use denote.Bor.{Bor}
use Rattle.music_base.specs.Numbers.{in_order}

-- a list in which no element is after the next one stays as it is
pub in_order-adjacent : {X : Type 0} (cmp : X → X → Ordering) (xs : List X) → AllAdjacentBelow (λ x y. true ≡ is_le (cmp x y)) xs (length xs) → in_order cmp xs ≡ xs
in_order-adjacent cmp [] h = refl
in_order-adjacent cmp (x ∷ []) h = refl
in_order-adjacent {X} cmp (x ∷ y ∷ ys) h =
    let first : is_gt (cmp x y) ≡ false = not_after (cmp x y) (h 0 x (omega arith)) in
    rw (in_order-adjacent cmp (y ∷ ys) (λ k d lt. let e : suc k + 1 ≡ suc (k + 1) = omega arith in rw e at (h (suc k) d (omega arith))), first) refl
  where
    not_after : (r : Ordering) → true ≡ is_le r → is_gt r ≡ false
    not_after Less e = refl
    not_after Equal e = refl
    not_after Greater e = cc

-- what `is_sorted_by` answers of a closure that asks whether an element is not after the next one
pub in_order_answer : {X F : Type 0} (cmp : X → X → Ordering) (g : Mut F (Bor X × (Bor X × Unit {0})) Bool) (f : F) (xs : List X) (r : Bool)
    → ((e : X → X → Bool) → ComputesOnPairs g e f → IsAllAdjacentAnswer (λ x y b. b ≡ e x y) xs r)
    → ((a : Bor X × (Bor X × Unit {0})) (b : Bool) (f' : F) → Called g f a b f' → (b ≡ is_le (cmp a.0.now a.1.0.now)) × (f' ≡ f))
    → OnTrue r (in_order cmp xs ≡ xs)
in_order_answer {X} cmp g f xs r answers calls = go r (answers (λ x y. is_le (cmp x y)) (always_returns_same g (λ a b. b ≡ is_le (cmp a.0.now a.1.0.now)) f calls))
  where
    go : (b : Bool) → IsAllAdjacentAnswer (λ x y z. z ≡ is_le (cmp x y)) xs b → OnTrue b (in_order cmp xs ≡ xs)
    go true h = in_order-adjacent cmp xs h
    go false h = tt
