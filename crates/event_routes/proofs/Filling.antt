-- Filling the lists of targets, rank by rank and index by index.
use Rattle.std.proofs.Common.{◌≡◌, ℕ, ◌+◌, ◌<◌, ◌≤◌, min, true, false, nat_eq, nat_lt, List, [], ◌∷◌, ◌++◌, length, get_or, set, take, refl, sym, ap, ◌∙◌, inl, inr, arith, append-nil, length-append}
use Rattle.std.specs.Prelude.{◌==◌, Option, Some, None}
use Rattle.std.specs.List.{cons_option, filter_map, list_all, position, position_or_len}
use Rattle.std.specs.Option.{option_to_list}
use Rattle.std.proofs.lemmas.Bool.{and_parts, cases_eq, cases_lt, eq-eqb, ne_eqb, lt-ltb, le-ltb}
use Rattle.std.proofs.lemmas.List.{get_or_past, get_or-set_other, get_or-set_same, get_or-take, length-take-le, take_more}
use Rattle.std.proofs.lemmas.List.Elements.{filter_map-append}
use Rattle.std.proofs.lemmas.List.Folds.{position_or_len_push}
use Rattle.std.proofs.lemmas.List.Sums.{position_or_len_is}
use Rattle.music_base.specs.Numbers.{all_differ, below}
use Rattle.music_base.proofs.FirstPlaces.{place_or_len}
use Rattle.music_base.proofs.Lists.{all_differ-at, range_with_len-more}
use Rattle.index_maps.specs.Indices.{are_indices}
use Rattle.index_maps.specs.Maps.{globals_of, rank_count}
use Rattle.index_maps.specs.declared.map.PortMap.{PortMap}
use Rattle.index_maps.specs.declared.span.TheConstants.{INDEX_LIMIT}
use Rattle.index_maps.proofs.Repeats.{AreSmall, small_at}
use Rattle.event_routes.specs.Routing.{target_at, target_on, targets_of}
use Rattle.event_routes.specs.declared.target.Target.{Target}

-- ---- one index more of a rank

abbrev pub place : List ℕ → ℕ → Option ℕ
place xs g = position (λ i. i == g) xs

place-other : (xs : List ℕ) (x g : ℕ) → nat_eq x g ≡ false → place (xs ++ x ∷ []) g ≡ place xs g
place-other xs x g other =
    let at : ℕ = position_or_len (λ i. i == g) xs in
    let pushed = position_or_len_push (λ i. i == g) xs x in
    elim (cases_eq at (length xs)) [
      | inl end ↦
          let e : position_or_len (λ i. i == g) (xs ++ x ∷ []) ≡ length xs + 1 = pushed ∙ rw (eq-eqb at (length xs) end, other) refl in
          rw (e, end, length-append xs (x ∷ []), le-ltb (length xs + 1) (length xs + 1) (omega arith), le-ltb (length xs) (length xs) (omega arith)) refl
      | inr inside ↦
          let e : position_or_len (λ i. i == g) (xs ++ x ∷ []) ≡ at = pushed ∙ rw (ne_eqb at (length xs) inside) refl in
          rw (e, length-append xs (x ∷ [])) (elim (cases_lt at (length xs)) [
            | inl lt ↦ rw (lt-ltb at (length xs) lt, lt-ltb at (length xs + 1) (omega arith)) refl
            | inr ge ↦ let le = (place_or_len (λ i. i == g) xs).1 in absurd (inside (omega (arith, le, ge)))
          ])
    ]

place-here : (xs : List ℕ) (x : ℕ) → position_or_len (λ i. i == x) xs ≡ length xs → place (xs ++ x ∷ []) x ≡ Some (length xs)
place-here xs x none =
    let end : nat_eq (position_or_len (λ i. i == x) xs) (length xs) ≡ true = eq-eqb (position_or_len (λ i. i == x) xs) (length xs) none in
    let e : position_or_len (λ i. i == x) (xs ++ x ∷ []) ≡ length xs + 0 = position_or_len_push (λ i. i == x) xs x ∙ rw (end, eq-eqb x x refl) refl in
    rw (e, length-append xs (x ∷ []), lt-ltb (length xs + 0) (length xs + 1) (omega arith)) (ap (λ (n : ℕ). Some n) (omega arith))

-- no earlier entry is the one at place i
not_before : (xs : List ℕ) (i : ℕ) → all_differ ◌==◌ xs ≡ true → i < length xs → position_or_len (λ j. j == get_or xs i 0) (take i xs) ≡ length (take i xs)
not_before xs i differ lt =
    let size : length (take i xs) ≡ i = length-take-le i xs (omega arith) in
    position_or_len_is (λ j. j == get_or xs i 0) (take i xs) (length (take i xs)) 0 (omega arith)
    (λ k before. rw (get_or-take i xs k 0 (omega (arith, size))) (all_differ-at ◌==◌ xs k i 0 differ (omega (arith, size)) lt))
    (λ below. absurd (omega arith))

-- what the list of an index has of a rank, when its first i entries were gone through
abbrev pub so_far : List ℕ → ℕ → ℕ → ℕ → List Target
so_far xs rank i g = option_to_list (target_at rank (place (take i xs) g))

pub next_local : (lists more : List (List Target)) (start : List Target) (xs : List ℕ) (rank i g : ℕ)
    → are_indices xs ≡ true → i < length xs → g < length lists
    → more ≡ set lists (get_or xs i 0) (get_or lists (get_or xs i 0) [] ++ record { rank = rank; local = i } ∷ [])
    → get_or lists g [] ≡ start ++ so_far xs rank i g → get_or more g [] ≡ start ++ so_far xs rank (i + 1) g
next_local lists more start xs rank i g are lt in_lists is before =
    let x : ℕ = get_or xs i 0 in
    let differ : all_differ ◌==◌ xs ≡ true = (and_parts (list_all (λ j. nat_lt j INDEX_LIMIT) xs) (all_differ ◌==◌ xs) are).1 in
    let size : length (take i xs) ≡ i = length-take-le i xs (omega arith) in
    let none = not_before xs i differ lt in
    elim (cases_eq x g) [
      | inl here ↦
          let at : place (take (i + 1) xs) x ≡ Some (length (take i xs)) = rw (take_more xs i 0 lt) (place-here (take i xs) x none) in
          let not_yet : place (take i xs) x ≡ None = rw (none, le-ltb (length (take i xs)) (length (take i xs)) (omega arith)) refl in
          let was : get_or lists x [] ≡ start = before_here x g here not_yet before in
          rw (is, ← here, at, size, get_or-set_same lists x (get_or lists x [] ++ record { rank = rank; local = i } ∷ []) [] (omega (arith, here, in_lists))) (ap (λ ts. ts ++ record { rank = rank; local = i } ∷ []) was)
      | inr other ↦
          let same : place (take (i + 1) xs) g ≡ place (take i xs) g = rw (take_more xs i 0 lt) (place-other (take i xs) x g (ne_eqb x g other)) in
          rw (is, same, get_or-set_other lists x g (get_or lists x [] ++ record { rank = rank; local = i } ∷ []) [] (λ e. other (sym e))) before
    ]
  where
    before_here : (x g : ℕ) → x ≡ g → place (take i xs) x ≡ None → get_or lists g [] ≡ start ++ so_far xs rank i g → get_or lists x [] ≡ start
    before_here x g here not_yet is = rw (← here, not_yet, append-nil) at is

-- ---- one rank more

one_target : (f : ℕ → Option Target) (r : ℕ) → filter_map f (r ∷ []) ≡ option_to_list (f r)
one_target f r = go (f r)
  where
    go : (o : Option Target) → cons_option o [] ≡ option_to_list o
    go None = refl
    go (Some target) = refl

pub ranks_more : (f : ℕ → Option Target) (r : ℕ) → filter_map f (below (r + 1)) ≡ filter_map f (below r) ++ option_to_list (f r)
ranks_more f r =
    let e : 0 + r ≡ r = omega arith in
    rw (range_with_len-more 0 r, filter_map-append f (below r) ((0 + r) ∷ []), e) (ap (λ ts. filter_map f (below r) ++ ts) (one_target f r))

-- no rank maps an index past the limit
far_place : (xs : List ℕ) (g : ℕ) → AreSmall xs → INDEX_LIMIT ≤ g → place xs g ≡ None
far_place xs g small far =
    let e : position_or_len (λ i. i == g) xs ≡ length xs = position_or_len_is (λ i. i == g) xs (length xs) 0 (omega arith)
    (λ k lt. ne_eqb (get_or xs k 0) g (λ same. absurd (omega (arith, small_at xs k small lt, same, far))))
    (λ lt. absurd (omega arith)) in
    rw (e, le-ltb (length xs) (length xs) (omega arith)) refl

pub far_more : (map : PortMap) (r g : ℕ) → AreSmall (globals_of map r) → INDEX_LIMIT ≤ g → filter_map (target_on map g) (below r) ≡ [] → filter_map (target_on map g) (below (r + 1)) ≡ []
far_more map r g small far none = rw (ranks_more (target_on map g) r, none, far_place (globals_of map r) g small far) refl

-- the lists are those of all ranks
pub all_ranks : (map : PortMap) (lists : List (List Target)) (n end g : ℕ) → n ≡ rank_count map → length lists ≡ min end INDEX_LIMIT → g < end
    → (g < length lists → get_or lists g [] ≡ filter_map (target_on map g) (below n)) → (INDEX_LIMIT ≤ g → filter_map (target_on map g) (below n) ≡ [])
    → get_or lists g [] ≡ targets_of map g
unfolding targets_of
all_ranks map lists n end g is size lt near far = elim (cases_lt g (length lists)) [
  | inl in_lists ↦ rw (← is) (near in_lists)
  | inr past ↦ rw (← is, get_or_past lists g [] past) (sym (far (omega (arith, size, lt, past))))
]
