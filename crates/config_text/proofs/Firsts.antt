-- Tests of the bytes of two lists put together, and the first byte that passes.
use Rattle.std.proofs.Common.{◌≡◌, ℕ, suc, ◌+◌, ◌<◌, Bool, true, false, ◌&&◌, List, [], ◌∷◌, ◌++◌, length, refl, ap, ◌∙◌, arith}
use Rattle.std.specs.List.{list_any, list_all, position_or_len, before_first}
use Rattle.std.proofs.lemmas.Bool.{and_from, and_parts, or_from, or_parts, or_right}
use Rattle.std.proofs.lemmas.List.Folds.{list_any-append, list_all-append}

pub any-append : (p : ℕ → Bool) (xs ys : List ℕ) → list_any p xs ≡ false → list_any p ys ≡ false → list_any p (xs ++ ys) ≡ false
any-append p xs ys a b = list_any-append p xs ys ∙ or_from _ _ a b

pub all-append : (p : ℕ → Bool) (xs ys : List ℕ) → list_all p xs ≡ true → list_all p ys ≡ true → list_all p (xs ++ ys) ≡ true
all-append p xs ys a b = list_all-append p xs ys ∙ and_from _ _ a b

-- with none in the front the first one stands behind it
pub before-past : (p : ℕ → Bool) (xs ys : List ℕ) → list_any p xs ≡ false → before_first p (xs ++ ys) ≡ xs ++ before_first p ys
before-past p [] ys none = refl
before-past p (x ∷ xs) ys none =
    let parts = or_parts (p x) (list_any p xs) none in
    let e : 1 + position_or_len p (xs ++ ys) ≡ suc (position_or_len p (xs ++ ys)) = omega arith in
    rw (parts.0, e) (ap (λ (l : List ℕ). x ∷ l) (before-past p xs ys parts.1))

pub any-middle : (p : ℕ → Bool) (xs : List ℕ) (y : ℕ) (ys : List ℕ) → p y ≡ true → list_any p (xs ++ y ∷ ys) ≡ true
any-middle p [] y ys passes = rw passes refl
any-middle p (x ∷ xs) y ys passes = or_right (p x) _ (any-middle p xs y ys passes)

-- where each byte that passes one test passes another
pub all-weaker : (p q : ℕ → Bool) → ((b : ℕ) → p b ≡ true → q b ≡ true) → (xs : List ℕ) → list_all p xs ≡ true → list_all q xs ≡ true
all-weaker p q passes [] all = refl
all-weaker p q passes (x ∷ xs) all =
    let parts = and_parts (p x) (list_all p xs) all in
    and_from (q x) _ (passes x parts.0) (all-weaker p q passes xs parts.1)

pub some_from_any : (p : ℕ → Bool) (xs : List ℕ) → list_any p xs ≡ true → 0 < length xs
some_from_any p [] any = absurd cc
some_from_any p (x ∷ xs) any = omega arith

pub and_false : (t : Bool) → (t && false) ≡ false
and_false true = refl
and_false false = refl
