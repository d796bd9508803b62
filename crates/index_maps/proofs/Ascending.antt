-- The indices of a map ascend, and an ascending list is told by what it has.
use Rattle.std.proofs.Common.{◌≡◌, ℕ, ◌+◌, ◌<◌, ◌≤◌, Bool, true, false, List, [], ◌∷◌, refl, sym, ap, ◌∙◌, inl, inr, arith}
use Rattle.std.specs.Prelude.{⊤, nat_lt, ◌==◌, ◌||◌, Some, None}
use Rattle.std.specs.List.{list_any, flat_map, find}
use Rattle.std.proofs.lemmas.Bool.{cases_Bool, cases_eq, cases_lt, eq-eqb, ne_eqb, eqb-true, eqb-false, ltb-true, ltb-false}
use Rattle.std.proofs.lemmas.List.Folds.{list_any-append}
use Rattle.music_base.specs.Numbers.{below}
use Rattle.index_maps.specs.Maps.{maps_index, indices, ascending, with_index, globals_of, rank_count}
use Rattle.index_maps.specs.declared.map.PortMap.{PortMap}
use Rattle.index_maps.proofs.Counts.{has}

-- each is above the one before it, and the first not below an index
abbrev pub Ascends : ℕ → List ℕ → Type 0
Ascends low [] = ⊤
Ascends low (x ∷ xs) = (low ≤ x) × Ascends (x + 1) xs

pub ascends_lower : (low lower : ℕ) (xs : List ℕ) → lower ≤ low → Ascends low xs → Ascends lower xs
ascends_lower low lower [] le up = tt
ascends_lower low lower (x ∷ xs) le up = let first : low ≤ x = up.0 in (omega arith, up.1)

-- what is too low is not there
pub has-low : (g low : ℕ) (xs : List ℕ) → g < low → Ascends low xs → has g xs ≡ false
has-low g low [] lt up = refl
has-low g low (x ∷ xs) lt up =
    let first : low ≤ x = up.0 in
    rw (ne_eqb x g (λ e. absurd (omega (arith, e)))) (has-low g (x + 1) xs (omega arith) up.1)

-- ---- told by what it has

same_tails : (x a : ℕ) (xs ys : List ℕ) → Ascends (x + 1) xs → Ascends (x + 1) ys → ((g : ℕ) → has g (x ∷ xs) ≡ has g (x ∷ ys)) → (g : ℕ) → has g xs ≡ has g ys
same_tails x a xs ys up vp same g = elim (cases_lt x g) [
  | inl lt ↦ let e : (x == g) ≡ false = ne_eqb x g (λ e. absurd (omega (arith, e))) in rw e at (same g)
  | inr ge ↦ has-low g (x + 1) xs (omega arith) up ∙ sym (has-low g (x + 1) ys (omega arith) vp)
]

-- the first of two ascending lists with the same elements is the same
not_before : (x y a : ℕ) (xs ys : List ℕ) → Ascends (y + 1) ys → has x (x ∷ xs) ≡ has x (y ∷ ys) → x < y → ⊥
not_before x y a xs ys vp same lt =
    let here : has x (x ∷ xs) ≡ true = rw (eq-eqb x x refl) refl in
    let none : has x (y ∷ ys) ≡ false = rw (ne_eqb y x (λ e. absurd (omega (arith, e)))) (has-low x (y + 1) ys (omega arith) vp) in
    let both : true ≡ false = sym here ∙ (same ∙ none) in cc

pub same_from_has : (low : ℕ) (xs ys : List ℕ) → Ascends low xs → Ascends low ys → ((g : ℕ) → has g xs ≡ has g ys) → xs ≡ ys
same_from_has low [] [] up vp same = refl
same_from_has low [] (y ∷ ys) up vp same = let e : false ≡ true = rw (eq-eqb y y refl) at (same y) in absurd cc
same_from_has low (x ∷ xs) [] up vp same = let e : true ≡ false = rw (eq-eqb x x refl) at (same x) in absurd cc
same_from_has low (x ∷ xs) (y ∷ ys) up vp same = elim (cases_lt x y) [
  | inl lt ↦ absurd (not_before x y 0 xs ys vp.1 (same x) lt)
  | inr ge ↦ elim (cases_lt y x) [
    | inl gt ↦ absurd (not_before y x 0 ys xs up.1 (sym (same y)) gt)
    | inr le ↦
        let e : y ≡ x = omega arith in
        let vq : Ascends (x + 1) ys = rw e at vp.1 in
        let same_x : (g : ℕ) → has g (x ∷ xs) ≡ has g (x ∷ ys) = rw e at same in
        rw e (ap (λ (l : List ℕ). x ∷ l) (same_from_has (x + 1) xs ys up.1 vq (same_tails x 0 xs ys up.1 vq same_x)))
  ]
]

-- ---- the indices of a map

with_index-ascends : (low x : ℕ) (ys : List ℕ) → low ≤ x → Ascends low ys → Ascends low (with_index x ys)
with_index-ascends low x [] le up = (le, tt)
with_index-ascends low x (y ∷ ys) le up = elim (cases_Bool (nat_lt x y)) [
  | inl t ↦ let lt : x < y = ltb-true x y t in rw t (le, (omega arith, up.1))
  | inr f ↦ rw f (elim (cases_Bool (x == y)) [
    | inl e ↦ rw e up
    | inr e ↦ let lt : y < x = omega (arith, ltb-false x y f, eqb-false x y e) in rw e (up.0, with_index-ascends (y + 1) x ys (omega arith) up.1)
  ])
]

ascending-ascends : (xs : List ℕ) → Ascends 0 (ascending xs)
ascending-ascends [] = tt
ascending-ascends (x ∷ xs) = with_index-ascends 0 x (ascending xs) (omega arith) (ascending-ascends xs)

pub indices-ascends : (map : PortMap) → Ascends 0 (indices map)
indices-ascends map = ascending-ascends (flat_map (globals_of map) (below (rank_count map)))

or_swap : (a b c : Bool) → (a || (b || c)) ≡ (b || (a || c))
or_swap true true c = refl
or_swap true false c = refl
or_swap false true c = refl
or_swap false false c = refl

or_twice : (a c : Bool) → (a || c) ≡ (a || (a || c))
or_twice true c = refl
or_twice false c = refl

has-with_index : (g x : ℕ) (ys : List ℕ) → has g (with_index x ys) ≡ ((x == g) || has g ys)
has-with_index g x [] = refl
has-with_index g x (y ∷ ys) = elim (cases_Bool (nat_lt x y)) [
  | inl t ↦ rw t refl
  | inr f ↦ rw f (elim (cases_Bool (x == y)) [
    | inl e ↦ let same : x ≡ y = eqb-true x y e in rw (e, same) (or_twice (y == g) (has g ys))
    | inr e ↦ rw (e, has-with_index g x ys) (or_swap (y == g) (x == g) (has g ys))
  ])
]

has-ascending : (g : ℕ) (xs : List ℕ) → has g (ascending xs) ≡ has g xs
has-ascending g [] = refl
has-ascending g (x ∷ xs) = has-with_index g x (ascending xs) ∙ ap (λ (b : Bool). (x == g) || b) (has-ascending g xs)

pub has-flat_map : {X : Type 0} (g : ℕ) (f : X → List ℕ) (xs : List X) → has g (flat_map f xs) ≡ list_any (λ x. has g (f x)) xs
has-flat_map g f [] = refl
has-flat_map g f (x ∷ xs) = list_any-append (λ i. i == g) (f x) (flat_map f xs) ∙ ap (λ (b : Bool). has g (f x) || b) (has-flat_map g f xs)

-- they are those that some rank maps
pub has-indices : (g : ℕ) (map : PortMap) → has g (indices map) ≡ maps_index map g
has-indices g map = has-ascending g (flat_map (globals_of map) (below (rank_count map))) ∙ has-flat_map g (globals_of map) (below (rank_count map))

-- ---- the first that passes a test

pub find-None : (p : ℕ → Bool) (xs : List ℕ) → ((g : ℕ) → p g ≡ false) → find p xs ≡ None
find-None p [] none = refl
find-None p (x ∷ xs) none = rw (none x) (find-None p xs none)

pub find-Some : (p : ℕ → Bool) (low : ℕ) (xs : List ℕ) (f : ℕ) → Ascends low xs → has f xs ≡ true → p f ≡ true → ((g : ℕ) → g < f → p g ≡ false) → find p xs ≡ Some f
find-Some p low [] f up there passes before = absurd cc
find-Some p low (x ∷ xs) f up there passes before = elim (cases_eq x f) [
  | inl same ↦ rw (same, passes) refl
  | inr differs ↦
      let on : has f xs ≡ true = rw (ne_eqb x f differs) at there in
      elim (cases_lt x f) [
        | inl lt ↦ rw (before x lt) (find-Some p (x + 1) xs f up.1 on passes before)
        | inr ge ↦ let none : has f xs ≡ false = has-low f (x + 1) xs (omega (arith, differs)) up.1 in absurd cc
      ]
]
