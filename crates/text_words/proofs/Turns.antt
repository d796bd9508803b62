-- Reading in turn ends at the first fault, and keeps what each reading gives.
use Rattle.std.proofs.Common.{◌≡◌, ℕ, zero, suc, ◌+◌, List, [], ◌∷◌, ◌++◌, length, take, map, refl, sym, ap, subst, ◌∙◌, arith, length-append, append_assoc, append-nil}
use Rattle.std.specs.Prelude.{Result, Ok, Err, slice_get, IsSomeAnd}
use Rattle.std.proofs.lemmas.List.{map-append}
use Rattle.text_words.specs.InTurn.{in_turn, IsFirst}

-- the same behind some that were read before
record IsFirstBehind {A B E : Type 0} (read : List B → A → Result B E) (before : List B) (xs : List A) (i : ℕ) (ys : List B) (e : E) : Type 0 where
  gave : in_turn read before (take i xs) ≡ Ok ys
  counts : length ys ≡ length before + i
  faulty : IsSomeAnd (slice_get xs i) (λ x. read ys x ≡ Err e)

module _ {A B E : Type 0} (read : List B → A → Result B E) where
  abbrev Fails : E → Result (List B) E
  Fails f = Err f

  at_once : (before : List B) (x : A) (xs : List A) (e f : E) → read before x ≡ Err f → in_turn read before (x ∷ xs) ≡ Err e → IsFirstBehind read before (x ∷ xs) 0 before e
  at_once before x xs e f is h =
      let stops : in_turn read before (x ∷ xs) ≡ Err f = rw is refl in
      let both : Fails f ≡ Fails e = sym stops ∙ h in
      let same : f ≡ e = cc in
      let faulty : read before x ≡ Err e = is ∙ ap (λ (g : E). Err g) same in
      record { gave = refl; counts = omega arith; faulty = faulty }

  later : (before : List B) (x : A) (xs : List A) (y : B) (i : ℕ) (ys : List B) (e : E) → read before x ≡ Ok y → IsFirstBehind read (before ++ y ∷ []) xs i ys e → IsFirstBehind read before (x ∷ xs) (suc i) ys e
  later before x xs y i ys e is on = record {
    gave = rw is on.gave;
    counts = omega (arith, on.counts, length-append before (y ∷ []));
    faulty = on.faulty;
  }

  tell : (before : List B) (x : A) (xs : List A) (e : E) (r : Result B E) → read before x ≡ r
      → ((y : B) → in_turn read (before ++ y ∷ []) xs ≡ Err e → (i : ℕ) × (ys : List B) × IsFirstBehind read (before ++ y ∷ []) xs i ys e)
      → in_turn read before (x ∷ xs) ≡ Err e → (i : ℕ) × (ys : List B) × IsFirstBehind read before (x ∷ xs) i ys e
  tell before x xs e (Err f) is rest h = (0, before, at_once before x xs e f is h)
  tell before x xs e (Ok y) is rest h =
      let found = rest y (rw is at h) in
      (suc found.0, found.1, later before x xs y found.0 found.1 e is found.2)

  first_behind : (xs : List A) (before : List B) (e : E) → in_turn read before xs ≡ Err e → (i : ℕ) × (ys : List B) × IsFirstBehind read before xs i ys e
  first_behind [] before e h = absurd cc
  first_behind (x ∷ xs) before e h = tell before x xs e (read before x) refl (λ y. first_behind xs (before ++ y ∷ []) e) h

  -- where reading fails, one place is the first faulty one
  pub first_fault : (xs : List A) (e : E) → in_turn read [] xs ≡ Err e → (i : ℕ) × (ys : List B) × IsFirst read xs i ys e
  first_fault xs e h =
      let found = first_behind xs [] e h in
      (found.0, found.1, record { gave = found.2.gave; counts = omega (arith, found.2.counts); faulty = found.2.faulty })

  goes_on : (before : List B) (x : A) (xs : List A) (i : ℕ) (ys : List B) (e : E) (r : Result B E) → read before x ≡ r
      → ((y : B) → in_turn read (before ++ y ∷ []) (take i xs) ≡ Ok ys → in_turn read (before ++ y ∷ []) xs ≡ Err e)
      → in_turn read before (x ∷ take i xs) ≡ Ok ys → in_turn read before (x ∷ xs) ≡ Err e
  goes_on before x xs i ys e (Err f) is rest h = let stops : Fails f ≡ Ok ys = rw is at h in absurd cc
  goes_on before x xs i ys e (Ok y) is rest h = rw is (rest y (rw is at h))

  fails_behind : (xs : List A) (before ys : List B) (i : ℕ) (e : E) → in_turn read before (take i xs) ≡ Ok ys → IsSomeAnd (slice_get xs i) (λ x. read ys x ≡ Err e) → in_turn read before xs ≡ Err e
  fails_behind [] before ys i e gave faulty = absurd faulty
  fails_behind (x ∷ xs) before ys zero e gave faulty =
      let same : before ≡ ys = cc in
      let fails : read before x ≡ Err e = rw same faulty in
      rw fails refl
  fails_behind (x ∷ xs) before ys (suc i) e gave faulty = goes_on before x xs i ys e (read before x) refl (λ y h. fails_behind xs (before ++ y ∷ []) ys i e h faulty) gave

  -- a first faulty place ends the reading
  pub first_ends : (xs : List A) (i : ℕ) (ys : List B) (e : E) → IsFirst read xs i ys e → in_turn read [] xs ≡ Err e
  first_ends xs i ys e first = fails_behind xs [] ys i e first.gave first.faulty

  -- ---- what was read

  abbrev Gave : List B → Result (List B) E
  Gave ys = Ok ys

  -- with one more that is read, the rest is read as all was
  pub in_turn-next : (before : List B) (x : A) (y : B) (left xs : List A) (all : Result (List B) E) → left ≡ x ∷ xs → read before x ≡ Ok y
      → in_turn read before left ≡ all → in_turn read (before ++ y ∷ []) xs ≡ all
  in_turn-next before x y left xs all parts gave reads = rw (parts, gave) at reads

  module _ (holds : List B → Type 0) (kept : (before : List B) (x : A) (y : B) → holds before → read before x ≡ Ok y → holds (before ++ y ∷ [])) where
    -- the next one is read
    next : (before ys : List B) (x : A) (xs : List A) (r : Result B E) → holds before → read before x ≡ r
        → ((y : B) → holds (before ++ y ∷ []) → in_turn read (before ++ y ∷ []) xs ≡ Ok ys → holds ys)
        → in_turn read before (x ∷ xs) ≡ Ok ys → holds ys
    next before ys x xs (Err e) so_far is on gave = let stops : Err e ≡ Gave ys = rw is at gave in absurd cc
    next before ys x xs (Ok y) so_far is on gave = on y (kept before x y so_far is) (rw is at gave)

    -- what holds of nothing, and goes on holding with each element that is read, holds of all
    pub in_turn-keeps : (xs : List A) (before ys : List B) → holds before → in_turn read before xs ≡ Ok ys → holds ys
    in_turn-keeps [] before ys so_far gave = let same : before ≡ ys = cc in subst holds same so_far
    in_turn-keeps (x ∷ xs) before ys so_far gave =
        next before ys x xs (read before x) so_far refl (λ y more. in_turn-keeps xs (before ++ y ∷ []) ys more) gave

  -- where each element that is read is alike what it was read from, so are all
  module _ {C : Type 0} (back : B → C) (front : A → C) (alike : (before : List B) (x : A) (y : B) → read before x ≡ Ok y → back y ≡ front x) where
    -- the next one is read
    next_alike : (before ys : List B) (x : A) (xs : List A) (r : Result B E) → read before x ≡ r
        → ((y : B) → in_turn read (before ++ y ∷ []) xs ≡ Ok ys → map back ys ≡ map back (before ++ y ∷ []) ++ map front xs)
        → in_turn read before (x ∷ xs) ≡ Ok ys → map back ys ≡ map back before ++ front x ∷ map front xs
    next_alike before ys x xs (Err e) is on gave = let stops : Err e ≡ Gave ys = rw is at gave in absurd cc
    next_alike before ys x xs (Ok y) is on gave =
        on y (rw is at gave) ∙ rw (map-append back before (y ∷ []), alike before x y is) (append_assoc (map back before) (front x ∷ []) (map front xs))

    pub in_turn-map : (xs : List A) (before ys : List B) → in_turn read before xs ≡ Ok ys → map back ys ≡ map back before ++ map front xs
    in_turn-map [] before ys gave = let same : before ≡ ys = cc in rw same (sym (append-nil (map back ys)))
    in_turn-map (x ∷ xs) before ys gave = next_alike before ys x xs (read before x) refl (λ y. in_turn-map xs (before ++ y ∷ []) ys) gave
