-- The entry at a place of a list of pairs.
use Rattle.std.proofs.Common.{◌≡◌, ℕ, zero, suc, ◌+◌, ◌<◌, Bool, true, false, not, List, [], ◌∷◌, ◌++◌, length, take, drop, Some, None, refl, sym, ap, ◌∙◌, arith, add-one}
use Rattle.std.specs.Prelude.{slice_get}
use Rattle.std.specs.List.{list_any, list_all}
use Rattle.std.proofs.lemmas.Bool.{and_parts, or_parts, not-true}
use Rattle.config_text.specs.Pairs.{same_name, value_of, has_own_keys}

-- one entry more
pub taken : {X : Type 0} (xs : List X) (i : ℕ) (x : X) → slice_get xs i ≡ Some x → take (i + 1) xs ≡ take i xs ++ x ∷ []
taken [] i x at = absurd cc
taken (y ∷ ys) zero x at = let e : y ≡ x = cc in ap (λ z. z ∷ []) e
taken (y ∷ ys) (suc i) x at = rw add-one (ap (λ zs. y ∷ zs) (rw add-one at (taken ys i x at)))

split : {X : Type 0} (xs : List X) (i : ℕ) (x : X) → slice_get xs i ≡ Some x → xs ≡ take i xs ++ x ∷ drop (suc i) xs
split [] i x at = absurd cc
split (y ∷ ys) zero x at = let e : y ≡ x = cc in ap (λ z. z ∷ ys) e
split (y ∷ ys) (suc i) x at = ap (λ zs. y ∷ zs) (split ys i x at)

all_at : {X : Type 0} (law : X → Bool) (xs : List X) (i : ℕ) (x : X) → list_all law xs ≡ true → slice_get xs i ≡ Some x → law x ≡ true
all_at law [] i x all at = absurd cc
all_at law (y ∷ ys) zero x all at = let e : y ≡ x = cc in rw (← e) (and_parts (law y) (list_all law ys) all).0
all_at law (y ∷ ys) (suc i) x all at = all_at law ys i x (and_parts (law y) (list_all law ys) all).1 at

within : {X : Type 0} (xs : List X) (i : ℕ) (x : X) → slice_get xs i ≡ Some x → i < length xs
within [] i x at = absurd cc
within (y ∷ ys) zero x at = omega arith
within (y ∷ ys) (suc i) x at = omega (arith, within ys i x at)

-- a key that is that of no earlier pair is absent among them
pub absent : {X : Type 0} (have : List (List ℕ × X)) (p : List ℕ × X) (more : List (List ℕ × X)) → has_own_keys (have ++ p ∷ more) ≡ true → value_of have p.0 ≡ None
absent [] p more own = refl
absent {X} (e ∷ have) p more own =
    let parts = and_parts (not (list_any (λ (other : List ℕ × X). same_name other.0 e.0) (have ++ p ∷ more))) (has_own_keys (have ++ p ∷ more)) own in
    let fresh = not-true _ parts.0 in
    rw (differs have fresh) (absent have p more parts.1)
  where
    differs : (have : List (List ℕ × X)) → list_any (λ (other : List ℕ × X). same_name other.0 e.0) (have ++ p ∷ more) ≡ false → same_name p.0 e.0 ≡ false
    differs [] fresh = (or_parts (same_name p.0 e.0) _ fresh).0
    differs (h ∷ have) fresh = differs have (or_parts (same_name h.0 e.0) _ fresh).1

-- the copies so far, with one more
pub one_more : {X : Type 0} (xs before : List X) (i : ℕ) (x : X) → before ≡ take i xs → slice_get xs i ≡ Some x → before ++ x ∷ [] ≡ take (i + 1) xs
one_more {X} xs before i x is at = ap (λ (l : List X). l ++ x ∷ []) is ∙ sym (taken xs i x at)
