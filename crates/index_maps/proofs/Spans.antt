-- How many intervals of a map hold an index.
use Rattle.std.proofs.Common.{Vec, Global, ◌≡◌, ℕ, zero, suc, ◌+◌, ◌-◌, ◌<◌, ◌≤◌, Bool, true, List, [], ◌∷◌, ◌++◌, refl, sym, ap, ◌∙◌, inl, inr, arith}
use Rattle.std.specs.Prelude.{⊤, Option, Some, None, Result, Ok, Err, IfOk, OnOk, IfSome, nat_lt, ◌==◌, ◌&&◌, not, if◌then◌else◌, map}
use Rattle.std.specs.List.{list_any, list_all, range_with_len, count_by, flat_map}
use Rattle.std.proofs.lemmas.Bool.{cases_Bool, cases_eq, lt-ltb, le-ltb, ne_eqb, and_parts, ltb-true}
use Rattle.std.proofs.lemmas.Bool.Decides.{nat_tests}
use Rattle.std.specs.List.Sorted.{IsPermutation}
use Rattle.std.proofs.lemmas.List.Folds.{list_any-append, list_all-append}
use Rattle.std.proofs.lemmas.List.Sums.{sum_by-append}
use Rattle.std.proofs.lemmas.List.Sorted.{list_any-IsPermutation, sum_by-IsPermutation}
use Rattle.index_maps.specs.Indices.{Extent, are_indices}
use Rattle.index_maps.specs.Intervals.{holds, ranks_mapping, first_shared, is_shared, single, span_of, is_some_interval, interval_indices, are_apart, begins_above}
use Rattle.index_maps.specs.Maps.{maps_index, indices}
use Rattle.index_maps.specs.declared.map.PortMap.{PortMap}
use Rattle.index_maps.specs.declared.interval.Interval.{Interval}
use Rattle.index_maps.proofs.Counts.{has, count_by-cons, list_any-count_by, maps_index-ranks_mapping}
use Rattle.index_maps.proofs.Ranges.{list_any_range}
use Rattle.index_maps.proofs.Ascending.{Ascends, ascends_lower, same_from_has, indices-ascends, has-indices, find-None, find-Some}
use Rattle.index_maps.proofs.Pigeonholes.{count_of-differ, count_of, count_of-cons}
use Rattle.music_base.specs.declared.errors.NoMemory.{NoMemory}
use Rattle.music_base.specs.Numbers.{all_differ}

-- ---- of one rank

holds-single : (g i : ℕ) → holds g (single i) ≡ (i == g)
holds-single g i = grind (arith, nat_tests)

count-singles : (g : ℕ) (list : List ℕ) → count_by (holds g) (map single list) ≡ count_of list g
count-singles g [] = refl
count-singles g (i ∷ list) =
    count_by-cons (holds g) (single i) (map single list) ∙ rw (holds-single g i, count_of-cons i list g) (omega (arith, count-singles g list))

pub count-list : (g : ℕ) (list : List ℕ) → are_indices list ≡ true → count_by (holds g) (map single list) ≡ (if has g list then 1 else 0)
count-list g list is = count-singles g list ∙ count_of-differ list g (and_parts _ (all_differ ◌==◌ list) is).1

pub some-singles : (list : List ℕ) → list_all is_some_interval (map single list) ≡ true
some-singles [] = refl
some-singles (i ∷ list) = rw (lt-ltb i (i + 1) (omega arith)) (some-singles list)

pub count-span : (g : ℕ) (span : Extent) → count_by (holds g) (span_of span) ≡ (if has g (range_with_len span.base span.size) then 1 else 0)
count-span g span = elim (cases_eq span.size 0) [
  | inl none ↦ rw (none) refl
  | inr some ↦
      rw (ne_eqb span.size 0 some, list_any_range g span.base span.size)
      (count_by-cons (holds g) (record { first = span.base; after = span.base + span.size }) [] ∙ omega arith)
]

-- ---- what intervals that do not touch hold

has-interval : (g : ℕ) (interval : Interval) → interval.first < interval.after → has g (interval_indices interval) ≡ holds g interval
has-interval g interval some =
    let end : interval.first + (interval.after - interval.first) ≡ interval.after = omega arith in
    list_any_range g interval.first (interval.after - interval.first) ∙ rw end refl

pub has-intervals : (g : ℕ) (intervals : List Interval) → are_apart intervals ≡ true → has g (flat_map interval_indices intervals) ≡ list_any (holds g) intervals
has-intervals g [] apart = refl
has-intervals g (interval ∷ intervals) apart =
    let parts = and_parts (is_some_interval interval && begins_above interval.after intervals) (are_apart intervals) apart in
    let some = ltb-true interval.first interval.after (and_parts (is_some_interval interval) (begins_above interval.after intervals) parts.0).0 in
    list_any-append (λ i. i == g) (interval_indices interval) (flat_map interval_indices intervals)
    ∙ rw (has-interval g interval some, has-intervals g intervals parts.1) refl

ascends-range : (a n : ℕ) (xs : List ℕ) → Ascends (a + n) xs → Ascends a (range_with_len a n ++ xs)
ascends-range a zero xs up = ascends_lower (a + 0) a xs (omega arith) up
ascends-range a (suc n) xs up =
    let e : a + suc n ≡ a + 1 + n = omega arith in
    let on : Ascends (a + 1 + n) xs = rw e at up in
    (omega arith, ascends-range (a + 1) n xs on)

abbrev StartsFrom : ℕ → List Interval → Type 0
StartsFrom low [] = ⊤
StartsFrom low (interval ∷ intervals) = low ≤ interval.first

starts_above : (g : ℕ) (intervals : List Interval) → begins_above g intervals ≡ true → StartsFrom g intervals
starts_above g [] above = tt
starts_above g (interval ∷ intervals) above = let lt : g < interval.first = ltb-true g interval.first above in omega arith

ascends-intervals : (low : ℕ) (intervals : List Interval) → are_apart intervals ≡ true → StartsFrom low intervals → Ascends low (flat_map interval_indices intervals)
ascends-intervals low [] apart from = tt
ascends-intervals low (interval ∷ intervals) apart from =
    let parts = and_parts (is_some_interval interval && begins_above interval.after intervals) (are_apart intervals) apart in
    let more = and_parts (is_some_interval interval) (begins_above interval.after intervals) parts.0 in
    let some = ltb-true interval.first interval.after more.0 in
    let rest = ascends-intervals interval.after intervals parts.1 (starts_above interval.after intervals more.1) in
    let end : interval.after ≡ interval.first + (interval.after - interval.first) = omega arith in
    ascends_lower interval.first low _ from (ascends-range interval.first (interval.after - interval.first) (flat_map interval_indices intervals) (rw end at rest))

starts_from_zero : (intervals : List Interval) → StartsFrom 0 intervals
starts_from_zero [] = tt
starts_from_zero (interval ∷ intervals) = omega arith

-- Intervals that do not touch and hold what some rank maps hold the indices of the map in their order.
pub intervals-indices : (map : PortMap) (intervals : List Interval) → are_apart intervals ≡ true → ((g : ℕ) → list_any (holds g) intervals ≡ maps_index map g) → flat_map interval_indices intervals ≡ indices map
intervals-indices map intervals apart same =
    same_from_has 0 (flat_map interval_indices intervals) (indices map) (ascends-intervals 0 intervals apart (starts_from_zero intervals)) (indices-ascends map)
    (λ g. has-intervals g intervals apart ∙ (same g ∙ sym (has-indices g map)))

-- ---- the least index that two ranks map

pub first_shared-None : (map : PortMap) → ((g : ℕ) → ranks_mapping map g ≤ 1) → first_shared map ≡ None
unfolding first_shared
first_shared-None map few = find-None (is_shared map) (indices map) (λ g. le-ltb 1 (ranks_mapping map g) (few g))

pub first_shared-Some : (map : PortMap) (f : ℕ) → 1 < ranks_mapping map f → ((g : ℕ) → g < f → ranks_mapping map g ≤ 1) → first_shared map ≡ Some f
unfolding first_shared
first_shared-Some map f many before =
    let there : has f (indices map) ≡ true = has-indices f map ∙ (maps_index-ranks_mapping map f ∙ lt-ltb 0 (ranks_mapping map f) (omega (arith, many))) in
    find-Some (is_shared map) 0 (indices map) f (indices-ascends map) there (lt-ltb 1 (ranks_mapping map f) many) (λ g lt. le-ltb 1 (ranks_mapping map g) (before g lt))

-- ---- in another order

list_all-not : (p : Interval → Bool) (xs : List Interval) → list_all p xs ≡ not (list_any (λ x. not (p x)) xs)
list_all-not p [] = refl
list_all-not p (x ∷ xs) = elim (cases_Bool (p x)) [ inl passes ↦ rw passes (list_all-not p xs) | inr fails ↦ rw fails refl ]

pub list_all-permuted : (p : Interval → Bool) (xs ys : List Interval) → IsPermutation xs ys → list_all p xs ≡ true → list_all p ys ≡ true
list_all-permuted p xs ys same all =
    let e : list_any (λ x. not (p x)) xs ≡ list_any (λ x. not (p x)) ys = list_any-IsPermutation (λ x. not (p x)) xs ys same in
    list_all-not p ys ∙ (rw e at (sym (list_all-not p xs) ∙ all))

pub count_by-permuted : (p : Interval → Bool) (xs ys : List Interval) → IsPermutation xs ys → count_by p ys ≡ count_by p xs
count_by-permuted p xs ys same = sum_by-IsPermutation (λ x. if p x then 1 else 0) xs ys same

-- ---- one rank more

pub count-more : (g : ℕ) (spans more : List Interval) (n : ℕ) → count_by (holds g) more ≡ n → count_by (holds g) (spans ++ more) ≡ count_by (holds g) spans + n
count-more g spans more n is = sum_by-append (λ x. if holds g x then 1 else 0) spans more ∙ ap (λ (k : ℕ). count_by (holds g) spans + k) is

pub some-more : (spans more : List Interval) → list_all is_some_interval spans ≡ true → list_all is_some_interval more ≡ true → list_all is_some_interval (spans ++ more) ≡ true
some-more spans more some also = rw (list_all-append is_some_interval spans more, some, also) refl

-- ---- under a result

pub counts_pushed : (r : Result (Unit {0}) NoMemory) (old new more : List Interval) (n : ℕ → ℕ) → ((g : ℕ) → count_by (holds g) more ≡ n g)
    → OnOk r (new ≡ old ++ more) → OnOk r ((g : ℕ) → count_by (holds g) new ≡ count_by (holds g) old + n g)
counts_pushed (Ok done) old new more n each is = λ g. rw is (count-more g old more (n g) (each g))
counts_pushed (Err e) old new more n each is = tt

pub some_pushed : (r : Result (Unit {0}) NoMemory) (old new more : List Interval) → list_all is_some_interval old ≡ true → list_all is_some_interval more ≡ true
    → OnOk r (new ≡ old ++ more) → OnOk r (list_all is_some_interval new ≡ true)
some_pushed (Ok done) old new more some also is = rw is (some-more old more some also)
some_pushed (Err e) old new more some also is = tt

abbrev Spans : Type 0
Spans = Vec Interval Global

pub some_sorted : (r : Result Spans NoMemory) (spans : List Interval) → list_all is_some_interval spans ≡ true → IfOk r (λ sorted. IsPermutation spans sorted.items) → IfOk r (λ sorted. list_all is_some_interval sorted.items ≡ true)
some_sorted (Ok sorted) spans some same = list_all-permuted is_some_interval spans sorted.items same some
some_sorted (Err e) spans some same = tt

pub counts_sorted : (r : Result Spans NoMemory) (spans : List Interval) (n : ℕ → ℕ) → ((g : ℕ) → count_by (holds g) spans ≡ n g)
    → IfOk r (λ sorted. IsPermutation spans sorted.items) → IfOk r (λ sorted. (g : ℕ) → count_by (holds g) sorted.items ≡ n g)
counts_sorted (Ok sorted) spans n each same = λ g. count_by-permuted (holds g) spans sorted.items same ∙ each g
counts_sorted (Err e) spans n each same = tt

pub counts_same : (r : Result Spans NoMemory) (n m : ℕ → ℕ) → ((g : ℕ) → n g ≡ m g)
    → IfOk r (λ spans. (g : ℕ) → count_by (holds g) spans.items ≡ n g) → IfOk r (λ spans. (g : ℕ) → count_by (holds g) spans.items ≡ m g)
counts_same (Ok spans) n m same each = λ g. each g ∙ same g
counts_same (Err e) n m same each = tt

-- some interval holds what some rank maps
pub holds-maps_index : (map : PortMap) (spans intervals : List Interval) → ((g : ℕ) → count_by (holds g) spans ≡ ranks_mapping map g)
    → ((g : ℕ) → list_any (holds g) intervals ≡ list_any (holds g) spans) → (g : ℕ) → list_any (holds g) intervals ≡ maps_index map g
holds-maps_index map spans intervals each same g =
    same g ∙ (list_any-count_by (holds g) spans ∙ (ap (nat_lt 0) (each g) ∙ sym (maps_index-ranks_mapping map g)))

pub indices_joined : (r : Result (List Interval) NoMemory) (map : PortMap) (spans : List Interval) → ((g : ℕ) → count_by (holds g) spans ≡ ranks_mapping map g)
    → IfOk r (λ joined. are_apart joined ≡ true) → IfOk r (λ joined. (g : ℕ) → list_any (holds g) joined ≡ list_any (holds g) spans)
    → IfOk r (λ joined. flat_map interval_indices joined ≡ indices map)
indices_joined (Ok joined) map spans each apart same = intervals-indices map joined apart (holds-maps_index map spans joined each same)
indices_joined (Err e) map spans each apart same = tt

pub shared_told : (r : Option ℕ) (map : PortMap) (spans : List Interval) → ((g : ℕ) → count_by (holds g) spans ≡ ranks_mapping map g)
    → (r ≡ None → (g : ℕ) → count_by (holds g) spans ≤ 1) → IfSome r (λ f. 1 < count_by (holds f) spans) → IfSome r (λ f. (g : ℕ) → g < f → count_by (holds g) spans ≤ 1)
    → r ≡ first_shared map
shared_told None map spans each none shared least = sym (first_shared-None map (λ g. omega (arith, each g, none refl g)))
shared_told (Some f) map spans each none shared least = sym (first_shared-Some map f (omega (arith, each f, shared)) (λ g lt. omega (arith, each g, least g lt)))
