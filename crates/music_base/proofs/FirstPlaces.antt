-- Where a list is cut at the first element that passes a test.
use Rattle.std.proofs.Common.{◌≡◌, ◌⊎◌, ℕ, ◌+◌, ◌≤◌, Bool, true, false, not, ltb, List, [], ◌∷◌, ◌++◌, length, drop, get_or, refl, sym, ap, ◌∙◌, inl, inr, arith, append_assoc}
use Rattle.std.specs.List.{list_any, position, position_or_len, before_first, after_first}
use Rattle.std.specs.Option.{unwrap_or}
use Rattle.std.proofs.lemmas.Bool.{cases_Bool, or_from, cases_lt, lt-ltb, le-ltb, or_parts}
use Rattle.std.proofs.lemmas.List.{length-append, take_all, take_at, drop_at, drop_all}
use Rattle.std.proofs.lemmas.List.Sums.{prefix_len-le-length, passes_at_first, split_at_first}
use Rattle.std.proofs.lemmas.List.Folds.{list_any_at}

-- the first place that passes, or the length
pub place_or_len : {X : Type 0} (p : X → Bool) (xs : List X) → (unwrap_or (position p xs) (length xs) ≡ position_or_len p xs) × (position_or_len p xs ≤ length xs)
place_or_len p xs =
    let le : position_or_len p xs ≤ length xs = prefix_len-le-length (λ x. not (p x)) xs in
    elim (cases_lt (position_or_len p xs) (length xs)) [
      | inl lt ↦ (rw (lt-ltb _ _ lt) refl, le)
      | inr ge ↦ (rw (le-ltb _ _ ge) (omega arith), le)
    ]

-- ---- whether one passes

goes_on : {X : Type 0} (p : X → Bool) (x : X) (xs : List X) → length (x ∷ xs) ≤ position_or_len p (x ∷ xs) → (p x ≡ false) × (length xs ≤ position_or_len p xs)
goes_on p x xs none =
    elim (cases_Bool (p x)) [
      | inl ends ↦ absurd (omega (arith, rw ends at none))
      | inr goes ↦ (goes, omega (arith, rw goes at none))
    ]

none_passes : {X : Type 0} (p : X → Bool) (xs : List X) → length xs ≤ position_or_len p xs → list_any p xs ≡ false
none_passes p [] none = refl
none_passes p (x ∷ xs) none =
    let on = goes_on p x xs none in
    or_from (p x) (list_any p xs) on.0 (none_passes p xs on.1)

-- where one passes, the first place is within
pub is_found : (p : ℕ → Bool) (xs : List ℕ) → ltb (position_or_len p xs) (length xs) ≡ list_any p xs
is_found p xs =
    let at = position_or_len p xs in
    elim (cases_lt at (length xs)) [
      | inl lt ↦ rw (lt-ltb _ _ lt, list_any_at p xs at 0 lt (passes_at_first p xs 0 lt)) refl
      | inr ge ↦ rw (le-ltb _ _ ge, none_passes p xs ge) refl
    ]

-- ---- where none passes

position-none : {X : Type 0} (p : X → Bool) (xs : List X) → list_any p xs ≡ false → position_or_len p xs ≡ length xs
position-none p [] none = refl
position-none p (x ∷ xs) none =
    let parts = or_parts (p x) (list_any p xs) none in
    rw (parts.0) (omega (arith, position-none p xs parts.1))

pub before_first-none : {X : Type 0} (p : X → Bool) (xs : List X) → list_any p xs ≡ false → before_first p xs ≡ xs
before_first-none p xs none = take_all _ xs (omega (arith, position-none p xs none))

pub after_first-none : {X : Type 0} (p : X → Bool) (xs : List X) → list_any p xs ≡ false → after_first p xs ≡ []
after_first-none p xs none = drop_all (position_or_len p xs + 1) xs (omega (arith, position-none p xs none))

-- ---- where one passes behind others that do not

position-at : {X : Type 0} (p : X → Bool) (xs : List X) (y : X) (ys : List X) → list_any p xs ≡ false → p y ≡ true → position_or_len p (xs ++ y ∷ ys) ≡ length xs
position-at p [] y ys none passes = rw passes refl
position-at p (x ∷ xs) y ys none passes =
    let parts = or_parts (p x) (list_any p xs) none in
    rw parts.0 (omega (arith, position-at p xs y ys parts.1 passes))

pub before_first-at : {X : Type 0} (p : X → Bool) (xs : List X) (y : X) (ys : List X) → list_any p xs ≡ false → p y ≡ true → before_first p (xs ++ y ∷ ys) ≡ xs
before_first-at p xs y ys none passes = take_at xs (y ∷ ys) _ (sym (position-at p xs y ys none passes))

pub after_first-at : {X : Type 0} (p : X → Bool) (xs : List X) (y : X) (ys : List X) → list_any p xs ≡ false → p y ≡ true → after_first p (xs ++ y ∷ ys) ≡ ys
after_first-at {X} p xs y ys none passes =
    ap (λ (l : List X). drop (position_or_len p (xs ++ y ∷ ys) + 1) l) (sym (append_assoc xs (y ∷ []) ys))
    ∙ drop_at (xs ++ y ∷ []) ys _ (omega (arith, position-at p xs y ys none passes, length-append xs (y ∷ [])))

-- ---- either way

-- none passes and nothing is cut, or one does and stands between the two parts
pub cut_first : (p : ℕ → Bool) (xs : List ℕ)
    → ((before_first p xs ≡ xs) × (after_first p xs ≡ [])) ⊎ ((y : ℕ) × (p y ≡ true) × (list_any p xs ≡ true) × (xs ≡ before_first p xs ++ (y ∷ after_first p xs)))
cut_first p xs =
    let at = position_or_len p xs in
    elim (cases_lt at (length xs)) [
      | inl lt ↦
          let passes = passes_at_first p xs 0 lt in
          inr (get_or xs at 0, passes, list_any_at p xs at 0 lt passes, split_at_first p xs 0 lt)
      | inr ge ↦ inl (take_all at xs ge, drop_all (at + 1) xs (omega (arith, ge)))
    ]
