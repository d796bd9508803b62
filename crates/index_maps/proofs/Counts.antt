-- How many ranks map an index.
use Rattle.std.proofs.Common.{◌≡◌, ℕ, zero, suc, ◌+◌, ◌-◌, ◌<◌, ◌≤◌, Bool, List, [], ◌∷◌, ◌++◌, length, take, get_or, refl, sym, ap, ◌∙◌, inl, inr, arith, append_assoc, length-append, add-zero}
use Rattle.std.specs.Prelude.{nat_le, nat_lt, ◌==◌, ◌&&◌, if◌then◌else◌}
use Rattle.std.specs.List.{list_any, range_with_len, count_by}
use Rattle.std.proofs.lemmas.Bool.{cases_Bool, cases_lt, lt-ltb, le-ltb, lt-leb, le-leb}
use Rattle.std.proofs.lemmas.List.Sums.{sum_by-cons, sum_by_push}
use Rattle.std.proofs.lemmas.List.{take_more}
use Rattle.music_base.specs.Numbers.{below}
use Rattle.index_maps.specs.Indices.{Extent}
use Rattle.index_maps.specs.Maps.{globals, globals_of, rank_count, maps_index, no_indices, split_at}
use Rattle.index_maps.specs.Intervals.{mapped_once, ranks_mapping}
use Rattle.index_maps.specs.declared.map.IndexMap.{IndexMap}
use Rattle.index_maps.specs.declared.map.PortMap.{PortMap}
use Rattle.index_maps.specs.declared.map.PortMap.TheVariants.{Each, Split}
use Rattle.index_maps.proofs.Ranges.{list_any_range}
use Rattle.index_maps.proofs.Splits.{split_at_first, split_at_rises, split_at_last}

abbrev pub has : ℕ → List ℕ → Bool
has g xs = list_any (λ i. i == g) xs

-- ---- counting

module _ {X : Type 0} (p : X → Bool) where
  pub count_by-cons : (x : X) (xs : List X) → count_by p (x ∷ xs) ≡ (if p x then 1 else 0) + count_by p xs
  count_by-cons x xs = sum_by-cons (λ y. if p y then 1 else 0) x xs

  pub count_by_push : (xs : List X) (x : X) → count_by p (xs ++ x ∷ []) ≡ count_by p xs + (if p x then 1 else 0)
  count_by_push xs x = sum_by_push (λ y. if p y then 1 else 0) xs x

  -- some element passes where the count is not 0
  pub list_any-count_by : (xs : List X) → list_any p xs ≡ nat_lt 0 (count_by p xs)
  list_any-count_by [] = refl
  list_any-count_by (x ∷ xs) = elim (cases_Bool (p x)) [
    | inl passes ↦ rw (count_by-cons x xs, passes) (sym (lt-ltb 0 (1 + count_by p xs) (omega arith)))
    | inr fails ↦ let e : 0 + count_by p xs ≡ count_by p xs = omega arith in rw (count_by-cons x xs, fails, e) (list_any-count_by xs)
  ]

-- ---- by the places in a list

at_front : {X : Type 0} (front : List X) (x : X) (xs : List X) (d : X) → get_or (front ++ x ∷ xs) (length front) d ≡ x
at_front [] x xs d = refl
at_front (y ∷ front) x xs d = at_front front x xs d

count_behind : {X : Type 0} (p : X → Bool) (d : X) (front xs : List X) → count_by (λ r. p (get_or (front ++ xs) r d)) (range_with_len (length front) (length xs)) ≡ count_by p xs
count_behind p d front [] = refl
count_behind {X} p d front (x ∷ xs) =
    let at : ℕ → Bool = λ r. p (get_or (front ++ (x ∷ xs)) r d) in
    let longer : length (front ++ x ∷ []) ≡ length front + 1 = length-append front (x ∷ []) in
    let same : (front ++ x ∷ []) ++ xs ≡ front ++ (x ∷ xs) = append_assoc front (x ∷ []) xs in
    let rest : count_by at (range_with_len (length front + 1) (length xs)) ≡ count_by p xs = rw (longer, same) at (count_behind p d (front ++ x ∷ []) xs) in
    let first : p (get_or (front ++ (x ∷ xs)) (length front) d) ≡ p x = ap p (at_front front x xs d) in
    count_by-cons at (length front) (range_with_len (length front + 1) (length xs))
    ∙ rw (first, count_by-cons p x xs) (omega (arith, rest))

pub count_at : {X : Type 0} (p : X → Bool) (d : X) (xs : List X) → count_by (λ r. p (get_or xs r d)) (below (length xs)) ≡ count_by p xs
count_at p d xs = count_behind p d [] xs

-- ---- in parts, of which each begins where the one before it ends

range_push : (n a : ℕ) → range_with_len a (suc n) ≡ range_with_len a n ++ (a + n) ∷ []
range_push zero a = rw add-zero refl
range_push (suc n) a = let e : a + 1 + n ≡ a + suc n = omega arith in ap (λ (xs : List ℕ). a ∷ xs) (rw e at (range_push n (a + 1)))

module _ (s : ℕ → ℕ) (rises : (r : ℕ) → s r ≤ s (r + 1)) where
  abbrev is_in_part : ℕ → ℕ → Bool
  is_in_part g r = has g (range_with_len (s r) (s (r + 1) - s r))

  rises_from : (n : ℕ) → s 0 ≤ s n
  rises_from zero = omega arith
  rises_from (suc n) = let e : n + 1 ≡ suc n = omega arith in omega (arith, rises_from n, rw e at (rises n))

  one_part_more : (g n c : ℕ) → c ≡ (if nat_le (s 0) g && nat_lt g (s n) then 1 else 0)
      → c + (if is_in_part g n then 1 else 0) ≡ (if nat_le (s 0) g && nat_lt g (s (n + 1)) then 1 else 0)
  one_part_more g n c is =
      let low : s 0 ≤ s n = rises_from n in
      let up : s n ≤ s (n + 1) = rises n in
      let end : s n + (s (n + 1) - s n) ≡ s (n + 1) = omega arith in
      rw (is, list_any_range g (s n) (s (n + 1) - s n), end) (elim (cases_lt g (s n)) [
        | inl before ↦ rw (lt-ltb g (s n) before, lt-leb (s n) g before, lt-ltb g (s (n + 1)) (omega arith)) (elim (cases_Bool (nat_le (s 0) g)) [ inl e ↦ rw e refl | inr e ↦ rw e refl ])
        | inr behind ↦ rw (le-ltb g (s n) behind, le-leb (s n) g behind, le-leb (s 0) g (omega arith)) (elim (cases_Bool (nat_lt g (s (n + 1)))) [ inl e ↦ rw e refl | inr e ↦ rw e refl ])
      ])

  pub count_in_parts : (g n : ℕ) → count_by (is_in_part g) (below n) ≡ (if nat_le (s 0) g && nat_lt g (s n) then 1 else 0)
  count_in_parts g zero = elim (cases_lt g (s 0)) [
    | inl before ↦ rw (lt-leb (s 0) g before) refl
    | inr behind ↦ rw (le-leb (s 0) g behind, le-ltb g (s 0) behind) refl
  ]
  count_in_parts g (suc n) =
      let e : n + 1 ≡ suc n = omega arith in
      let z : 0 + n ≡ n = omega arith in
      rw (range_push n 0, ← e, z) (count_by_push (is_in_part g) (below n) n ∙ one_part_more g n (count_by (is_in_part g) (below n)) (count_in_parts g n))

-- ---- the ranks of a map

pub ranks_mapping_each : (maps : List IndexMap) (g : ℕ) → ranks_mapping (Each maps) g ≡ count_by (λ map. has g (globals map)) maps
unfolding ranks_mapping
ranks_mapping_each maps g = count_at (λ map. has g (globals map)) no_indices maps

pub ranks_mapping_split : (span : Extent) (ranks g : ℕ) → 0 < ranks → ranks_mapping (Split span ranks) g ≡ (if has g (range_with_len span.base span.size) then 1 else 0)
unfolding ranks_mapping
ranks_mapping_split span ranks g some =
    let begins : split_at span ranks 0 ≡ span.base = omega (arith, split_at_first span.size ranks) in
    let ends : split_at span ranks ranks ≡ span.base + span.size = omega (arith, split_at_last span.size ranks some) in
    let rises = λ (r : ℕ). let le : split_at span ranks r ≤ split_at span ranks (r + 1) = omega (arith, split_at_rises span.size ranks r (r + 1) some (omega arith)) in le in
    count_in_parts (split_at span ranks) rises g ranks ∙ rw (begins, ends, list_any_range g span.base span.size) refl

pub ranks_mapping_no_rank : (span : Extent) (g : ℕ) → ranks_mapping (Split span 0) g ≡ 0
unfolding ranks_mapping
ranks_mapping_no_rank span g = refl

-- some rank maps an index where the number of those that do is not 0
pub maps_index-ranks_mapping : (map : PortMap) (g : ℕ) → maps_index map g ≡ nat_lt 0 (ranks_mapping map g)
unfolding ranks_mapping
maps_index-ranks_mapping map g = list_any-count_by (λ r. has g (globals_of map r)) (below (rank_count map))

pub maps_index_each : (maps : List IndexMap) (g : ℕ) → list_any (λ map. has g (globals map)) maps ≡ maps_index (Each maps) g
maps_index_each maps g = list_any-count_by (λ map. has g (globals map)) maps ∙ sym (rw (maps_index-ranks_mapping (Each maps) g, ranks_mapping_each maps g) refl)

pub maps_index_split : (span : Extent) (ranks g : ℕ) → 0 < ranks → has g (range_with_len span.base span.size) ≡ maps_index (Split span ranks) g
maps_index_split span ranks g some =
    rw (maps_index-ranks_mapping (Split span ranks) g, ranks_mapping_split span ranks g some)
    (elim (cases_Bool (has g (range_with_len span.base span.size))) [ inl e ↦ rw e refl | inr e ↦ rw e refl ])

pub maps_index_no_rank : (span : Extent) (ranks g : ℕ) → ranks ≤ 0 → nat_lt 0 ranks ≡ maps_index (Split span ranks) g
maps_index_no_rank span zero g le = refl
maps_index_no_rank span (suc ranks) g le = absurd (omega arith)

-- one map more
pub counts_more : (g : ℕ) (maps : List IndexMap) (i : ℕ) (d : IndexMap) → i < length maps
    → count_by (λ map. has g (globals map)) (take i maps) + mapped_once (get_or maps i d) g ≡ count_by (λ map. has g (globals map)) (take (i + 1) maps)
counts_more g maps i d lt = rw (take_more maps i d lt) (sym (count_by_push (λ map. has g (globals map)) (take i maps) (get_or maps i d)))
