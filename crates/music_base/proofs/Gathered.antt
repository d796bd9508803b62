-- Loops that go over a list from its front: what they made so far, and what the rest gives, are the whole.
use Rattle.std.proofs.Common.{◌≡◌, ℕ, zero, suc, ◌+◌, ◌<◌, ◌≤◌, List, [], ◌∷◌, ◌++◌, length, get_or, drop, take, map, slice_set, refl, sym, ap, ◌∙◌, arith, add-one, append_assoc, Option, Some, None}
use Rattle.std.specs.Prelude.{slice_get}
use Rattle.std.specs.List.{filter_map, flat_map}
use Rattle.std.proofs.Math.Seq.{drop-cons}
use Rattle.std.proofs.lemmas.List.{append-nil, drop_all}

-- ---- the rest of a list

-- the rest from a place on is its element there, and the rest behind that
pub drop_next : {X : Type 0} (xs : List X) (i : ℕ) (d : X) → i < length xs → drop i xs ≡ get_or xs i d ∷ drop (i + 1) xs
drop_next xs i d lt = let e : i + 1 ≡ suc i = omega arith in rw e (drop-cons xs i d lt)

-- the first element of the rest is the one at its place
pub rest_has : {X : Type 0} (xs : List X) (i : ℕ) (x : X) (rest : List X) → drop i xs ≡ x ∷ rest → slice_get xs i ≡ Some x
rest_has [] zero x rest e = cc
rest_has [] (suc i) x rest e = cc
rest_has (y ∷ ys) zero x rest e = cc
rest_has (y ∷ ys) (suc i) x rest e = rest_has ys i x rest e

rest_suc : {X : Type 0} (xs : List X) (i : ℕ) (x : X) (rest : List X) → drop i xs ≡ x ∷ rest → drop (suc i) xs ≡ rest
rest_suc [] zero x rest e = cc
rest_suc [] (suc i) x rest e = cc
rest_suc (y ∷ ys) zero x rest e = cc
rest_suc (y ∷ ys) (suc i) x rest e = rest_suc ys i x rest e

-- what follows it is the rest from the next place on
pub rest_on : {X : Type 0} (xs : List X) (i : ℕ) (x : X) (rest : List X) → drop i xs ≡ x ∷ rest → drop (i + 1) xs ≡ rest
rest_on xs i x rest e = rw add-one (rest_suc xs i x rest e)

-- ---- one element more

-- what it gives is appended
pub gathered_some : {X Y : Type 0} (f : X → Option Y) (xs : List X) (i : ℕ) (d : X) (y : Y) (made whole : List Y) → i < length xs → f (get_or xs i d) ≡ Some y
    → made ++ filter_map f (drop i xs) ≡ whole → (made ++ y ∷ []) ++ filter_map f (drop (i + 1) xs) ≡ whole
gathered_some f xs i d y made whole lt e h =
    append_assoc made (y ∷ []) (filter_map f (drop (i + 1) xs)) ∙ ap (λ ys. made ++ ys) (sym (rw (drop_next xs i d lt, e) refl)) ∙ h

-- it gives nothing
pub gathered_none : {X Y : Type 0} (f : X → Option Y) (xs : List X) (i : ℕ) (d : X) (made whole : List Y) → i < length xs → f (get_or xs i d) ≡ None
    → made ++ filter_map f (drop i xs) ≡ whole → made ++ filter_map f (drop (i + 1) xs) ≡ whole
gathered_none f xs i d made whole lt e h = ap (λ ys. made ++ ys) (sym (rw (drop_next xs i d lt, e) refl)) ∙ h

-- it gives a list
pub gathered_flat : {X Y : Type 0} (f : X → List Y) (xs : List X) (i : ℕ) (d : X) (made whole : List Y) → i < length xs
    → made ++ flat_map f (drop i xs) ≡ whole → (made ++ f (get_or xs i d)) ++ flat_map f (drop (i + 1) xs) ≡ whole
gathered_flat f xs i d made whole lt h =
    append_assoc made (f (get_or xs i d)) (flat_map f (drop (i + 1) xs)) ∙ ap (λ ys. made ++ flat_map f ys) (sym (drop_next xs i d lt)) ∙ h

-- at the end of the list the whole is made
pub gathered_end : {X Y : Type 0} (f : List X → List Y) (xs : List X) (i : ℕ) (made whole : List Y) → f [] ≡ [] → length xs ≤ i → made ++ f (drop i xs) ≡ whole → made ≡ whole
gathered_end f xs i made whole none past h =
    sym (append-nil made) ∙ ap (λ ys. made ++ ys) (sym none) ∙ ap (λ ys. made ++ f ys) (sym (drop_all i xs past)) ∙ h

-- the elements in front are written over, and one more is
pub mapped_more : {X : Type 0} (f : X → X) (xs : List X) (i : ℕ) (d : X) → i < length xs
    → slice_set (map f (take i xs) ++ drop i xs) i (f (get_or (map f (take i xs) ++ drop i xs) i d)) ≡ map f (take (i + 1) xs) ++ drop (i + 1) xs
mapped_more f [] i d lt = absurd (omega (arith, lt))
mapped_more f (x ∷ xs) zero d lt = refl
mapped_more f (x ∷ xs) (suc i) d lt = let e : suc i + 1 ≡ suc (i + 1) = omega arith in rw e (ap (λ ys. f x ∷ ys) (mapped_more f xs i d (omega (arith, lt))))
