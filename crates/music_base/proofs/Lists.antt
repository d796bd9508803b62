-- What filter, map and flat_map give, and consecutive numbers.
use Rattle.std.proofs.Common.{◌≡◌, ℕ, zero, suc, ◌+◌, ◌<◌, ◌≤◌, Bool, true, false, cond, not, ◌&&◌, nat_eq, nat_le, nat_lt, List, [], ◌∷◌, ◌++◌, length, get_or, map, refl, sym, ap, inl, inr, ◌∙◌, arith, add-zero, zero-add}
use Rattle.std.specs.Prelude.{◌==◌}
use Rattle.std.specs.declared.cmp.Ordering.{Ordering}
use Rattle.std.specs.Ordering.{is_gt}
use Rattle.std.specs.List.{filter, flat_map, list_any, range_with_len, AllByRecursion}
use Rattle.std.proofs.lemmas.Bool.{cases_Bool, cases_eq, cases_lt, eq-eqb, le-leb, le-ltb, lt-leb, lt-ltb, ne_eqb, and_parts, or_parts, not-true}
use Rattle.std.proofs.lemmas.List.{map-append}
use Rattle.std.proofs.lemmas.List.Folds.{list_any-append}
use Rattle.music_base.specs.Numbers.{all_differ, below, in_order, put_in_order}

-- ---- what holds of each element

pub All-weaker : {X : Type 0} (P Q : X → Type 0) → ((x : X) → P x → Q x) → (xs : List X) → AllByRecursion P xs → AllByRecursion Q xs
All-weaker P Q f [] h = h
All-weaker P Q f (x ∷ xs) h = (f x h.0, All-weaker P Q f xs h.1)

pub All-of : {X : Type 0} (P : X → Type 0) → ((x : X) → P x) → (xs : List X) → AllByRecursion P xs
All-of P f [] = tt
All-of P f (x ∷ xs) = (f x, All-of P f xs)

pub All-filter : {X : Type 0} (P : X → Type 0) (p : X → Bool) (xs : List X) → AllByRecursion P xs → AllByRecursion P (filter p xs)
All-filter P p [] h = h
All-filter P p (x ∷ xs) h = elim (cases_Bool (p x)) [ inl t ↦ rw t (h.0, All-filter P p xs h.1) | inr e ↦ rw e (All-filter P p xs h.1) ]

-- what is left has passed the test besides
pub All-passing : {X : Type 0} (P : X → Type 0) (p : X → Bool) (xs : List X) → AllByRecursion P xs → AllByRecursion (λ x. P x × (p x ≡ true)) (filter p xs)
All-passing P p [] h = h
All-passing {X} P p (x ∷ xs) h = go (p x) refl (All-passing P p xs h.1)
  where
    go : (b : Bool) → p x ≡ b → AllByRecursion (λ y. P y × (p y ≡ true)) (filter p xs) → AllByRecursion (λ y. P y × (p y ≡ true)) (cond b (x ∷ filter p xs) (filter p xs))
    go true e rest = ((h.0, e), rest)
    go false e rest = rest

pub All-map : {X Y : Type 0} (P : Y → Type 0) (f : X → Y) (xs : List X) → AllByRecursion (λ x. P (f x)) xs → AllByRecursion P (map f xs)
All-map P f [] h = h
All-map P f (x ∷ xs) h = (h.0, All-map P f xs h.1)

pub All-push : {X : Type 0} (P : X → Type 0) (xs : List X) (x : X) → AllByRecursion P xs → P x → AllByRecursion P (xs ++ x ∷ [])
All-push P [] x h is = (is, tt)
All-push P (y ∷ ys) x h is = (h.0, All-push P ys x h.1 is)

pub All-at : {X : Type 0} (P : X → Type 0) (xs : List X) (i : ℕ) (d : X) → AllByRecursion P xs → i < length xs → P (get_or xs i d)
All-at P [] i d h lt = absurd (omega arith)
All-at P (x ∷ xs) zero d h lt = h.0
All-at P (x ∷ xs) (suc i) d h lt = All-at P xs i d h.1 (omega arith)

-- what holds of each element and of what stands for an absent one
pub All-get_or : {X : Type 0} (P : X → Type 0) (xs : List X) (i : ℕ) (d : X) → P d → AllByRecursion P xs → P (get_or xs i d)
All-get_or P [] i d none h = none
All-get_or P (x ∷ xs) zero d none h = h.0
All-get_or P (x ∷ xs) (suc i) d none h = All-get_or P xs i d none h.1

pub All-append : {X : Type 0} (P : X → Type 0) (xs ys : List X) → AllByRecursion P xs → AllByRecursion P ys → AllByRecursion P (xs ++ ys)
All-append P [] ys h k = k
All-append P (x ∷ xs) ys h k = (h.0, All-append P xs ys h.1 k)

pub All-flat_map : {X Y : Type 0} (P : Y → Type 0) (f : X → List Y) (xs : List X) → AllByRecursion (λ x. AllByRecursion P (f x)) xs → AllByRecursion P (flat_map f xs)
All-flat_map P f [] h = tt
All-flat_map P f (x ∷ xs) h = All-append P (f x) (flat_map f xs) h.0 (All-flat_map P f xs h.1)

-- where each value of f has it
pub All-map_of : {X Y : Type 0} (P : Y → Type 0) (f : X → Y) → ((x : X) → P (f x)) → (xs : List X) → AllByRecursion P (map f xs)
All-map_of P f each xs = All-map P f xs (All-of (λ x. P (f x)) each xs)

pub All-flat_map_of : {X Y : Type 0} (P : Y → Type 0) (f : X → List Y) → ((x : X) → AllByRecursion P (f x)) → (xs : List X) → AllByRecursion P (flat_map f xs)
All-flat_map_of P f each xs = All-flat_map P f xs (All-of (λ x. AllByRecursion P (f x)) each xs)

-- a list that stands where a test passes
pub All-when : {X : Type 0} (P : X → Type 0) (b : Bool) (xs : List X) → (b ≡ true → AllByRecursion P xs) → AllByRecursion P (cond b xs [])
All-when P true xs h = h refl
All-when P false xs h = tt

-- putting in order adds nothing
pub All-put_in_order : {X : Type 0} (P : X → Type 0) (cmp : X → X → Ordering) (x : X) (xs : List X) → P x → AllByRecursion P xs → AllByRecursion P (put_in_order cmp x xs)
All-put_in_order P cmp x [] is h = (is, tt)
All-put_in_order P cmp x (y ∷ ys) is h = elim (cases_Bool (is_gt (cmp x y))) [
  | inl later ↦ rw later (h.0, All-put_in_order P cmp x ys is h.1)
  | inr first ↦ rw first (is, h)
]

pub All-in_order : {X : Type 0} (P : X → Type 0) (cmp : X → X → Ordering) (xs : List X) → AllByRecursion P xs → AllByRecursion P (in_order cmp xs)
All-in_order P cmp [] h = tt
All-in_order P cmp (x ∷ xs) h = All-put_in_order P cmp x (in_order cmp xs) h.0 (All-in_order P cmp xs h.1)

-- what holds of consecutive numbers between their ends
pub All-between : (P : ℕ → Type 0) (a n : ℕ) → ((i : ℕ) → a ≤ i → i < a + n → P i) → AllByRecursion P (range_with_len a n)
All-between P a zero h = tt
All-between P a (suc n) h = (h a (omega arith) (omega arith), All-between P (a + 1) n (λ i low high. h i (omega arith) (omega arith)))

-- and of those below n
pub All-below : (P : ℕ → Type 0) (n : ℕ) → ((i : ℕ) → i < n → P i) → AllByRecursion P (below n)
All-below P n h = All-between P 0 n (λ i low high. h i (omega arith))

-- what holds from a on holds of consecutive numbers from a on
pub All-range_with_len : (P : ℕ → Type 0) (a n : ℕ) → ((i : ℕ) → a ≤ i → P i) → AllByRecursion P (range_with_len a n)
All-range_with_len P a n h = All-between P a n (λ i low high. h i low)

-- ---- elements that differ

-- one more that differs from each
pub all_differ-push : {X : Type 0} (eq : X → X → Bool) (xs : List X) (y : X) → all_differ eq xs ≡ true → list_any (λ x. eq x y) xs ≡ false → all_differ eq (xs ++ y ∷ []) ≡ true
all_differ-push eq [] y differ none = refl
all_differ-push eq (x ∷ xs) y differ none =
    let front = and_parts (not (list_any (eq x) xs)) (all_differ eq xs) differ in
    let apart = or_parts (eq x y) (list_any (λ z. eq z y) xs) none in
    rw (list_any-append (eq x) xs (y ∷ []), not-true (list_any (eq x) xs) front.0, apart.0) (all_differ-push eq xs y front.1 apart.1)

pub none_passes : {X : Type 0} (p : X → Bool) (xs : List X) (i : ℕ) (d : X) → list_any p xs ≡ false → i < length xs → p (get_or xs i d) ≡ false
none_passes p [] i d none lt = absurd (omega arith)
none_passes p (x ∷ xs) zero d none lt = (or_parts (p x) (list_any p xs) none).0
none_passes p (x ∷ xs) (suc i) d none lt = none_passes p xs i d (or_parts (p x) (list_any p xs) none).1 (omega arith)

-- an element differs from each later one
pub all_differ-at : {X : Type 0} (eq : X → X → Bool) (xs : List X) (i j : ℕ) (d : X) → all_differ eq xs ≡ true → i < j → j < length xs → eq (get_or xs i d) (get_or xs j d) ≡ false
all_differ-at eq [] i j d differ before lt = absurd (omega arith)
all_differ-at eq (x ∷ xs) i zero d differ before lt = absurd (omega arith)
all_differ-at eq (x ∷ xs) zero (suc j) d differ before lt =
    let front = and_parts (not (list_any (eq x) xs)) (all_differ eq xs) differ in
    none_passes (eq x) xs j d (not-true (list_any (eq x) xs) front.0) (omega arith)
all_differ-at eq (x ∷ xs) (suc i) (suc j) d differ before lt =
    let front = and_parts (not (list_any (eq x) xs)) (all_differ eq xs) differ in
    all_differ-at eq xs i j d front.1 (omega arith) (omega arith)

-- ---- filters

pub filter-none : {X : Type 0} (p : X → Bool) (xs : List X) → AllByRecursion (λ x. p x ≡ false) xs → filter p xs ≡ []
filter-none p [] h = refl
filter-none p (x ∷ xs) h = rw h.0 (filter-none p xs h.1)

-- tests that agree on consecutive numbers
pub filter-agree_within : (p q : ℕ → Bool) (a n : ℕ) → ((i : ℕ) → a ≤ i → i < a + n → p i ≡ q i) → filter p (range_with_len a n) ≡ filter q (range_with_len a n)
filter-agree_within p q a zero same = refl
filter-agree_within p q a (suc n) same =
    rw (same a (omega arith) (omega arith), filter-agree_within p q (a + 1) n (λ i low high. same i (omega arith) (omega arith))) refl

-- the one of them that is p
pub filter-range_with_len_one : (p a n : ℕ) → a ≤ p → p < a + n → filter (λ i. i == p) (range_with_len a n) ≡ p ∷ []
filter-range_with_len_one p a zero low high = absurd (omega arith)
filter-range_with_len_one p a (suc n) low high = elim (cases_eq a p) [
  | inl e ↦
      let t : nat_eq a p ≡ true = eq-eqb a p e in
      let none : filter (λ i. i == p) (range_with_len (a + 1) n) ≡ [] = filter-none (λ i. i == p) (range_with_len (a + 1) n) (All-range_with_len (λ i. nat_eq i p ≡ false) (a + 1) n (λ i above. ne_eqb i p (λ same. omega arith))) in
      rw (t, none, e) refl
  | inr other ↦
      let f : nat_eq a p ≡ false = ne_eqb a p other in
      let more : a + 1 ≤ p = elim (cases_lt a p) [ inl lt ↦ omega arith | inr le ↦ absurd (other (omega arith)) ] in
      rw f (filter-range_with_len_one p (a + 1) n more (omega arith))
]

-- a number is among consecutive ones where it lies between their ends
pub list_any-range_with_len : (g a n : ℕ) → list_any (λ i. i == g) (range_with_len a n) ≡ (nat_le a g && nat_lt g (a + n))
list_any-range_with_len g a zero = elim (cases_lt g a) [
  | inl before ↦ let none : nat_le a g ≡ false = lt-leb a g before in rw none refl
  | inr from ↦
      let none : nat_lt g (a + 0) ≡ false = le-ltb g (a + 0) (omega arith) in
      let some : nat_le a g ≡ true = le-leb a g from in
      rw (some, none) refl
]
list_any-range_with_len g a (suc n) = elim (cases_eq a g) [
  | inl same ↦
      let first : nat_eq a g ≡ true = eq-eqb a g same in
      let low : nat_le a g ≡ true = le-leb a g (omega arith) in
      let high : nat_lt g (a + suc n) ≡ true = lt-ltb g (a + suc n) (omega arith) in
      rw (first, low, high) refl
  | inr other ↦
      let first : nat_eq a g ≡ false = ne_eqb a g other in
      let end : a + 1 + n ≡ a + suc n = omega arith in
      let low : nat_le (a + 1) g ≡ nat_le a g = elim (cases_lt a g) [
        | inl lt ↦ le-leb (a + 1) g (omega arith) ∙ sym (le-leb a g (omega arith))
        | inr le ↦ let lt : g < a = elim (cases_lt g a) [ inl lt ↦ lt | inr from ↦ absurd (other (omega arith)) ] in lt-leb (a + 1) g (omega arith) ∙ sym (lt-leb a g lt)
      ] in
      rw (first, list_any-range_with_len g (a + 1) n, end, low) refl
]

-- ---- map and flat_map

pub map-agree : {X Y : Type 0} (f g : X → Y) → ((x : X) → f x ≡ g x) → (xs : List X) → map f xs ≡ map g xs
map-agree f g same [] = refl
map-agree f g same (x ∷ xs) = rw (same x, map-agree f g same xs) refl

-- functions that agree on each element
pub map-agree_each : {X Y : Type 0} (f g : X → Y) (xs : List X) → AllByRecursion (λ x. f x ≡ g x) xs → map f xs ≡ map g xs
map-agree_each f g [] same = refl
map-agree_each f g (x ∷ xs) same = rw (same.0, map-agree_each f g xs same.1) refl

pub flat_map-agree_each : {X A : Type 0} (f g : X → List A) (xs : List X) → AllByRecursion (λ x. f x ≡ g x) xs → flat_map f xs ≡ flat_map g xs
flat_map-agree_each f g [] same = refl
flat_map-agree_each f g (x ∷ xs) same = rw (same.0, flat_map-agree_each f g xs same.1) refl

pub map-map : {X Y Z : Type 0} (g : Y → Z) (f : X → Y) (xs : List X) → map g (map f xs) ≡ map (λ x. g (f x)) xs
map-map g f [] = refl
map-map g f (x ∷ xs) = ap (λ ys. g (f x) ∷ ys) (map-map g f xs)

pub map-flat_map : {X A B : Type 0} (h : A → B) (f : X → List A) (xs : List X) → map h (flat_map f xs) ≡ flat_map (λ x. map h (f x)) xs
map-flat_map h f [] = refl
map-flat_map h f (x ∷ xs) = rw (map-append, map-flat_map h f xs) refl

pub flat_map-none : {X A : Type 0} (xs : List X) → flat_map {A = A} (λ x. []) xs ≡ []
flat_map-none [] = refl
flat_map-none (x ∷ xs) = flat_map-none xs

-- ---- consecutive numbers

pub range_with_len-append : (a m n : ℕ) → range_with_len a m ++ range_with_len (a + m) n ≡ range_with_len a (m + n)
range_with_len-append a zero n = rw (add-zero, zero-add) refl
range_with_len-append a (suc m) n =
    let e : suc m + n ≡ suc (m + n) = omega arith in
    let f : a + suc m ≡ a + 1 + m = omega arith in
    rw (e, f) (ap (λ xs. a ∷ xs) (range_with_len-append (a + 1) m n))

pub range_with_len-more : (a n : ℕ) → range_with_len a (n + 1) ≡ range_with_len a n ++ (a + n) ∷ []
range_with_len-more a n = sym (range_with_len-append a n 1)

-- functions that agree on these numbers
pub map-agree_within : {A : Type 0} (f g : ℕ → A) (a n : ℕ) → ((k : ℕ) → a ≤ k → k < a + n → f k ≡ g k) → map f (range_with_len a n) ≡ map g (range_with_len a n)
map-agree_within f g a n same = map-agree_each f g (range_with_len a n) (All-between (λ k. f k ≡ g k) a n same)

pub flat_map-agree_within : {A : Type 0} (f g : ℕ → List A) (a n : ℕ) → ((k : ℕ) → a ≤ k → k < a + n → f k ≡ g k) → flat_map f (range_with_len a n) ≡ flat_map g (range_with_len a n)
flat_map-agree_within f g a zero same = refl
flat_map-agree_within f g a (suc n) same =
    rw (same a (omega arith) (omega arith), flat_map-agree_within f g (a + 1) n (λ k low high. same k (omega arith) (omega arith))) refl
