-- Numbers below n that all differ are at most n.
use Rattle.std.proofs.Common.{◌≡◌, ℕ, zero, suc, ◌+◌, ◌<◌, ◌≤◌, Bool, true, false, List, [], ◌∷◌, length, refl, sym, ◌∙◌, inl, inr, arith}
use Rattle.std.specs.Prelude.{nat_lt, ◌==◌, not, if◌then◌else◌}
use Rattle.std.specs.List.{list_all, list_any, count_by}
use Rattle.std.proofs.lemmas.Bool.{cases_Bool, cases_eq, and_parts, ltb-true, eq-eqb, ne_eqb}
use Rattle.std.proofs.lemmas.List.Sums.{sum_by-cons}
use Rattle.music_base.specs.Numbers.{all_differ, total_below}
use Rattle.index_maps.specs.Indices.{are_indices}
use Rattle.index_maps.specs.declared.span.TheConstants.{INDEX_LIMIT}

abbrev pub count_of : List ℕ → ℕ → ℕ
count_of xs g = count_by (λ i. i == g) xs

abbrev pub is_at : ℕ → ℕ → ℕ
is_at x g = if x == g then 1 else 0

pub count_of-cons : (x : ℕ) (xs : List ℕ) (g : ℕ) → count_of (x ∷ xs) g ≡ is_at x g + count_of xs g
count_of-cons x xs g = sum_by-cons (λ y. is_at y g) x xs

-- ---- how often an index comes in a list in which none comes twice

none_counted : (xs : List ℕ) (g : ℕ) → list_any (λ i. i == g) xs ≡ false → count_of xs g ≡ 0
none_counted [] g none = refl
none_counted (x ∷ xs) g none = elim (cases_eq x g) [
  | inl same ↦ let other : true ≡ false = rw (eq-eqb x g same) at none in absurd cc
  | inr differs ↦ rw (count_of-cons x xs g, ne_eqb x g differs) (omega (arith, none_counted xs g (rw (ne_eqb x g differs) at none)))
]

any_turned : (xs : List ℕ) (x : ℕ) → list_any (λ y. x == y) xs ≡ list_any (λ i. i == x) xs
any_turned [] x = refl
any_turned (y ∷ xs) x = elim (cases_eq x y) [
  | inl same ↦ rw (eq-eqb x y same, eq-eqb y x (sym same)) refl
  | inr differs ↦ rw (ne_eqb x y differs, ne_eqb y x (λ e. differs (sym e))) (any_turned xs x)
]

not_true : (b : Bool) → not b ≡ true → b ≡ false
not_true true e = sym e
not_true false e = refl

pub count_of-differ : (xs : List ℕ) (g : ℕ) → all_differ ◌==◌ xs ≡ true → count_of xs g ≡ (if list_any (λ i. i == g) xs then 1 else 0)
count_of-differ [] g differ = refl
count_of-differ (x ∷ xs) g differ =
    let parts = and_parts (not (list_any (λ y. x == y) xs)) (all_differ ◌==◌ xs) differ in
    elim (cases_eq x g) [
      | inl same ↦
          let at_x : list_any (λ i. i == x) xs ≡ false = sym (any_turned xs x) ∙ not_true (list_any (λ y. x == y) xs) parts.0 in
          let none : list_any (λ i. i == g) xs ≡ false = rw same at at_x in
          rw (count_of-cons x xs g, eq-eqb x g same) (omega (arith, none_counted xs g none))
      | inr differs ↦ rw (count_of-cons x xs g, ne_eqb x g differs) (omega (arith, count_of-differ xs g parts.1))
    ]

-- ---- how many there can be

total-zero : (n : ℕ) → total_below (λ g. 0) n ≡ 0
total-zero zero = refl
total-zero (suc n) = omega (arith, total-zero n)

total-add : (f h sums : ℕ → ℕ) (n : ℕ) → ((g : ℕ) → sums g ≡ f g + h g) → total_below sums n ≡ total_below f n + total_below h n
total-add f h sums zero each = refl
total-add f h sums (suc n) each = omega (arith, total-add f h sums n each, each n)

total-few : (f : ℕ → ℕ) (n : ℕ) → ((g : ℕ) → f g ≤ 1) → total_below f n ≤ n
total-few f zero few = omega arith
total-few f (suc n) few = omega (arith, total-few f n few, few n)

total-beyond : (x n : ℕ) → n ≤ x → total_below (is_at x) n ≡ 0
total-beyond x zero le = refl
total-beyond x (suc n) le = rw (ne_eqb x n (λ e. absurd (omega (arith, e)))) (omega (arith, total-beyond x n (omega arith)))

total-one : (x n : ℕ) → x < n → total_below (is_at x) n ≡ 1
total-one x zero lt = absurd (omega arith)
total-one x (suc n) lt = elim (cases_eq x n) [
  | inl same ↦ rw (eq-eqb x n same) (omega (arith, total-beyond x n (omega arith)))
  | inr differs ↦ rw (ne_eqb x n differs) (let le : x < n = omega (arith, lt, differs) in omega (arith, total-one x n le))
]

all_counted : (n : ℕ) (xs : List ℕ) → list_all (λ i. nat_lt i n) xs ≡ true → total_below (count_of xs) n ≡ length xs
all_counted n [] small = total-zero n
all_counted n (x ∷ xs) small =
    let parts = and_parts (nat_lt x n) (list_all (λ i. nat_lt i n) xs) small in
    total-add (is_at x) (count_of xs) (count_of (x ∷ xs)) n (count_of-cons x xs) ∙ omega (arith, total-one x n (ltb-true x n parts.0), all_counted n xs parts.1)

at_most_one : (xs : List ℕ) (g : ℕ) → all_differ ◌==◌ xs ≡ true → count_of xs g ≤ 1
at_most_one xs g differ = rw (count_of-differ xs g differ) (elim (cases_Bool (list_any (λ i. i == g) xs)) [
  | inl some ↦ rw some (omega arith)
  | inr none ↦ rw none (omega arith)
])

few_below : (n : ℕ) (xs : List ℕ) → list_all (λ i. nat_lt i n) xs ≡ true → all_differ ◌==◌ xs ≡ true → length xs ≤ n
few_below n xs small differ = omega (arith, all_counted n xs small, total-few (count_of xs) n (λ g. at_most_one xs g differ))

pub indices_are_few : (xs : List ℕ) → are_indices xs ≡ true → length xs ≤ INDEX_LIMIT
indices_are_few xs is =
    let parts = and_parts (list_all (λ i. nat_lt i INDEX_LIMIT) xs) (all_differ ◌==◌ xs) is in
    few_below INDEX_LIMIT xs parts.0 parts.1
