-- Lists in order: cut in pieces by a key that does not fall, and put in order again.
use Rattle.std.proofs.Common.{◌≡◌, ◌⊎◌, ℕ, zero, suc, ◌+◌, ◌<◌, ◌≤◌, Bool, true, false, nat_eq, nat_lt, List, [], ◌∷◌, ◌++◌, refl, sym, ap, subst, inl, inr, zero-add, arith}
use Rattle.std.specs.List.{filter, flat_map, AllByRecursion}
use Rattle.std.specs.declared.cmp.Ordering.{Ordering}
use Rattle.std.specs.Ordering.{is_gt, nat_cmp, ordering_then}
use Rattle.std.proofs.lemmas.Bool.{lt-ltb, le-ltb, eq-eqb, ne_eqb, cases_lt, cases_order, cases_Bool}
use Rattle.std.proofs.lemmas.List.{append-nil}
use Rattle.std.proofs.lemmas.List.Concat.{flat_map-append}
use Rattle.music_base.specs.Numbers.{below, put_in_order}
use Rattle.music_base.proofs.Lists.{All-weaker, All-of, All-filter, filter-none, range_with_len-more}

-- R holds of each element and each later one
abbrev pub Pairwise : {X : Type 0} → (X → X → Type 0) → List X → Type 0
Pairwise R [] = Unit {0}
Pairwise R (x ∷ xs) = AllByRecursion (R x) xs × Pairwise R xs

-- the key does not fall
abbrev pub Ascending : {X : Type 0} → (X → ℕ) → List X → Type 0
Ascending key xs = Pairwise (λ x y. key x ≤ key y) xs

pub Pairwise-filter : {X : Type 0} (R : X → X → Type 0) (p : X → Bool) (xs : List X) → Pairwise R xs → Pairwise R (filter p xs)
Pairwise-filter R p [] h = h
Pairwise-filter R p (x ∷ xs) h = elim (cases_Bool (p x)) [ inl t ↦ rw t (All-filter (R x) p xs h.0, Pairwise-filter R p xs h.1) | inr e ↦ rw e (Pairwise-filter R p xs h.1) ]

-- ---- putting in order

-- what comes no later by number and is not after by the rest is not after
pub not_after : (a b : ℕ) (rest : Ordering) → a ≤ b → is_gt rest ≡ false → is_gt (ordering_then (nat_cmp a b) rest) ≡ false
not_after a b rest le tie = elim (cases_lt a b) [
  | inl lt ↦ let t : nat_lt a b ≡ true = lt-ltb a b lt in rw t refl
  | inr ge ↦
      let f : nat_lt a b ≡ false = le-ltb a b ge in
      let e : nat_eq a b ≡ true = eq-eqb a b (omega arith) in
      rw (f, e) tie
]

pub put_in_order-front : {X : Type 0} (cmp : X → X → Ordering) (x : X) (xs : List X) → AllByRecursion (λ y. is_gt (cmp x y) ≡ false) xs → put_in_order cmp x xs ≡ x ∷ xs
put_in_order-front cmp x [] h = refl
put_in_order-front cmp x (y ∷ ys) h = rw h.0 refl

-- ---- pieces

-- what has a key below n, and then what has the key n
below_and_at : {X : Type 0} (key : X → ℕ) (n : ℕ) (xs : List X) → Ascending key xs → filter (λ x. nat_lt (key x) n) xs ++ filter (λ x. nat_eq (key x) n) xs ≡ filter (λ x. nat_lt (key x) (n + 1)) xs
below_and_at key n [] h = refl
below_and_at {X} key n (x ∷ xs) h =
    let step : ((key x ≡ n) ⊎ ((key x < n) ⊎ (n < key x))) → filter (λ x. nat_lt (key x) n) (x ∷ xs) ++ filter (λ x. nat_eq (key x) n) (x ∷ xs) ≡ filter (λ x. nat_lt (key x) (n + 1)) (x ∷ xs) = λ c. elim c [
      | inl e ↦
          let a : nat_lt (key x) n ≡ false = le-ltb (key x) n (omega arith) in
          let b : nat_eq (key x) n ≡ true = eq-eqb (key x) n e in
          let d : nat_lt (key x) (n + 1) ≡ true = lt-ltb (key x) (n + 1) (omega arith) in
          let none : filter (λ y. nat_lt (key y) n) xs ≡ [] = filter-none (λ y. nat_lt (key y) n) xs (All-weaker (λ y. key x ≤ key y) (λ y. nat_lt (key y) n ≡ false) (λ y le. le-ltb (key y) n (omega arith)) xs h.0) in
          let rest : filter (λ y. nat_eq (key y) n) xs ≡ filter (λ y. nat_lt (key y) (n + 1)) xs = rw none at (below_and_at key n xs h.1) in
          rw (a, b, d, none) (ap (λ ys. x ∷ ys) rest)
      | inr o ↦ elim o [
        | inl lt ↦
            let a : nat_lt (key x) n ≡ true = lt-ltb (key x) n lt in
            let b : nat_eq (key x) n ≡ false = ne_eqb (key x) n (λ e. omega arith) in
            let d : nat_lt (key x) (n + 1) ≡ true = lt-ltb (key x) (n + 1) (omega arith) in
            rw (a, b, d) (ap (λ ys. x ∷ ys) (below_and_at key n xs h.1))
        | inr gt ↦
            let a : nat_lt (key x) n ≡ false = le-ltb (key x) n (omega arith) in
            let b : nat_eq (key x) n ≡ false = ne_eqb (key x) n (λ e. omega arith) in
            let d : nat_lt (key x) (n + 1) ≡ false = le-ltb (key x) (n + 1) (omega arith) in
            rw (a, b, d) (below_and_at key n xs h.1)
      ]
    ] in step (cases_order (key x) n)

pieces_more : {X : Type 0} (key : X → ℕ) (n : ℕ) (xs : List X) → Ascending key xs → flat_map (λ j. filter (λ x. nat_eq (key x) j) xs) (below n) ≡ filter (λ x. nat_lt (key x) n) xs → flat_map (λ j. filter (λ x. nat_eq (key x) j) xs) (below (n + 1)) ≡ filter (λ x. nat_lt (key x) (n + 1)) xs
pieces_more key n xs h sofar =
    rw (range_with_len-more 0 n, flat_map-append, sofar, zero-add, append-nil) (below_and_at key n xs h)

-- the pieces of each key below n, one after another
pub pieces : {X : Type 0} (key : X → ℕ) (n : ℕ) (xs : List X) → Ascending key xs → flat_map (λ j. filter (λ x. nat_eq (key x) j) xs) (below n) ≡ filter (λ x. nat_lt (key x) n) xs
pieces key zero xs h = sym (filter-none _ xs (All-of _ (λ x. le-ltb (key x) 0 (omega arith)) xs))
pieces {X} key (suc n) xs h =
    let P : ℕ → Type 0 = λ m. flat_map (λ j. filter (λ x. nat_eq (key x) j) xs) (below m) ≡ filter (λ x. nat_lt (key x) m) xs in
    let e : n + 1 ≡ suc n = omega arith in
    subst P e (pieces_more key n xs h (pieces key n xs h))
