-- Looking an index up: in the block of its interval, among all routes, and in the maps.
use Rattle.std.proofs.Common.{◌≡◌, ℕ, zero, suc, ◌+◌, ◌-◌, ◌*◌, ◌<◌, ◌≤◌, Bool, true, false, nat_eq, List, [], ◌∷◌, ◌++◌, length, get_or, take, drop, refl, sym, ap, ◌∙◌, inl, inr, arith}
use Rattle.std.specs.Prelude.{Some, None, nat_le, nat_lt, slice_get, if◌then◌else◌}
use Rattle.std.specs.List.{flat_map, position, position_or_len}
use Rattle.std.proofs.lemmas.Bool.{and_parts, cases_Bool, cases_eq, cases_lt, eq-eqb, ne_eqb, leb-true, ltb-true, le-leb, lt-ltb, le-ltb}
use Rattle.std.proofs.lemmas.Grind.{flat_map-append}
use Rattle.std.proofs.lemmas.List.{drop-drop}
use Rattle.music_base.proofs.Lists.{flat_map-agree_within}
use Rattle.index_maps.specs.Cuts.{are_cuts_from, cuts_end}
use Rattle.index_maps.specs.Intervals.{holds, interval_indices}
use Rattle.index_maps.specs.Maps.{indices}
use Rattle.index_maps.specs.declared.interval.Interval.{Interval}
use Rattle.index_maps.specs.declared.map.PortMap.{PortMap}
use Rattle.index_maps.proofs.Ascending.{has-indices}
use Rattle.index_maps.proofs.Counts.{has}
use Rattle.index_maps.proofs.CutSteps.{cuts_first, cuts-few}
use Rattle.event_routes.specs.Blocks.{AreBlocks, IsBlock, cuts_of, routes_from, routes_in, targets_at, width}
use Rattle.event_routes.specs.Routing.{AreRoutes, Route, breaks_behind, goes_on, route_to, routed, routes_of, run_count, targets_of}
use Rattle.event_routes.specs.declared.block.TargetBlock.{TargetBlock}
use Rattle.event_routes.specs.declared.target.Target.{Target}

-- ---- one block, before others

routed-past : (n first ranks : ℕ) (targets : List Target) (rest : List Route) (g : ℕ) → (first ≤ g → first + n ≤ g) → routed (routes_from n first ranks targets ++ rest) g ≡ routed rest g
routed-past zero first ranks targets rest g past = refl
routed-past (suc n) first ranks targets rest g past =
    let other : nat_eq first g ≡ false = ne_eqb first g (λ same. omega (arith, past (omega arith), same)) in
    rw other (routed-past n (first + 1) ranks (drop ranks targets) rest g (λ le. omega (arith, past (omega arith))))

routed-in : (n first ranks : ℕ) (targets : List Target) (rest : List Route) (g : ℕ) → first ≤ g → g < first + n
    → routed (routes_from n first ranks targets ++ rest) g ≡ take ranks (drop ((g - first) * ranks) targets)
routed-in zero first ranks targets rest g le lt = absurd (omega arith)
routed-in (suc n) first ranks targets rest g le lt = elim (cases_eq first g) [
  | inl here ↦
      let none : (g - first) * ranks ≡ 0 = omega (arith, ap (λ k. k * ranks) (zero_of here)) in
      rw (eq-eqb first g here, none) refl
  | inr other ↦
      let on = routed-in n (first + 1) ranks (drop ranks targets) rest g (omega (arith, other)) (omega arith) in
      let back : ranks + (g - (first + 1)) * ranks ≡ (g - first) * ranks = one_back (g - (first + 1)) (g - first) (omega (arith, other)) in
      rw (ne_eqb first g other) (on ∙ ap (λ ts. take ranks ts) (drop-drop ((g - (first + 1)) * ranks) ranks targets ∙ ap (λ k. drop k targets) back))
]
  where
    zero_of : first ≡ g → g - first ≡ 0
    zero_of same = omega arith

    one_back : (m k : ℕ) → m + 1 ≡ k → ranks + m * ranks ≡ k * ranks
    one_back m k is = rw (← is) (omega arith)

-- ---- all blocks

pub record IsFound (blocks : List TargetBlock) (g : ℕ) (block : TargetBlock) : Type 0 where
  pub held : holds g block.interval ≡ true
  pub whole : IsBlock block
  pub targets : routed (routes_in blocks) g ≡ targets_at block (g - block.interval.first)

held_parts : (g : ℕ) (x : Interval) → holds g x ≡ true → (x.first ≤ g) × (g < x.after)
held_parts g x held = let parts = and_parts (nat_le x.first g) (nat_lt g x.after) held in (leb-true x.first g parts.0, ltb-true g x.after parts.1)

not_held : (g : ℕ) (x : Interval) → holds g x ≡ false → x.first ≤ g → x.after ≤ g
not_held g x held le = elim (cases_lt g x.after) [
  | inl lt ↦ let bad : true ≡ false = rw (le-leb x.first g le, lt-ltb g x.after lt) at held in absurd cc
  | inr ge ↦ ge
]

pub found : (blocks : List TargetBlock) (g : ℕ) (d : TargetBlock) → AreBlocks blocks → position_or_len (holds g) (cuts_of blocks) < length blocks
    → IsFound blocks g (get_or blocks (position_or_len (holds g) (cuts_of blocks)) d)
found [] g d all lt = absurd (omega arith)
found (x ∷ blocks) g d all lt = elim (cases_Bool (holds g x.interval)) [
  | inl held ↦
      let parts = held_parts g x.interval held in
      rw held (record { held = held; whole = all.0; targets = routed-in (width x) x.interval.first x.ranks x.targets.items (routes_in blocks) g parts.0 (omega (arith, parts.1)) })
  | inr none ↦
      let k : ℕ = position_or_len (holds g) (cuts_of blocks) in
      let next : 1 + k ≡ suc k = omega arith in
      let short : k < length blocks = omega (arith, rw none at lt) in
      let on = found blocks g d all.1 short in
      rw (none, next) (record {
        held = on.held;
        whole = on.whole;
        targets = routed-past (width x) x.interval.first x.ranks x.targets.items (routes_in blocks) g (λ le. omega (arith, all.0.some, not_held g x.interval none le)) ∙ on.targets;
      })
]

pub missing : (blocks : List TargetBlock) (g : ℕ) → AreBlocks blocks → length blocks ≤ position_or_len (holds g) (cuts_of blocks) → routed (routes_in blocks) g ≡ []
missing [] g all ge = refl
missing (x ∷ blocks) g all ge = elim (cases_Bool (holds g x.interval)) [
  | inl held ↦ absurd (omega (arith, rw held at ge))
  | inr none ↦
      routed-past (width x) x.interval.first x.ranks x.targets.items (routes_in blocks) g (λ le. omega (arith, all.0.some, not_held g x.interval none le))
      ∙ missing blocks g all.1 (omega (arith, rw none at ge))
]

pub length-cuts_of : (blocks : List TargetBlock) → length (cuts_of blocks) ≡ length blocks
length-cuts_of [] = refl
length-cuts_of (x ∷ blocks) = omega (arith, length-cuts_of blocks)

-- ---- by the place that was found

place_is : (p : Interval → Bool) (xs : List Interval) (k : ℕ) → Some k ≡ position p xs → (k ≡ position_or_len p xs) × (position_or_len p xs < length xs)
place_is p xs k is = elim (cases_lt (position_or_len p xs) (length xs)) [
  | inl lt ↦ let e : Some k ≡ Some (position_or_len p xs) = rw (lt-ltb (position_or_len p xs) (length xs) lt) at is in (cc, lt)
  | inr ge ↦ let e : Some k ≡ None = rw (le-ltb (position_or_len p xs) (length xs) ge) at is in absurd cc
]

no_place : (p : Interval → Bool) (xs : List Interval) → None ≡ position p xs → length xs ≤ position_or_len p xs
no_place p xs is = elim (cases_lt (position_or_len p xs) (length xs)) [
  | inl lt ↦ let e : None ≡ Some (position_or_len p xs) = rw (lt-ltb (position_or_len p xs) (length xs) lt) at is in absurd cc
  | inr ge ↦ ge
]

pub found_at : (blocks : List TargetBlock) (cuts : List Interval) (g k : ℕ) (d block : TargetBlock) → cuts ≡ cuts_of blocks → AreBlocks blocks → Some k ≡ position (holds g) cuts → block ≡ get_or blocks k d
    → IsFound blocks g block
found_at blocks cuts g k d block is all at here =
    let place = place_is (holds g) (cuts_of blocks) k (rw is at at) in
    rw (here, place.0) (found blocks g d all (omega (arith, place.1, length-cuts_of blocks)))

pub missing_at : (blocks : List TargetBlock) (cuts : List Interval) (g : ℕ) → cuts ≡ cuts_of blocks → AreBlocks blocks → None ≡ position (holds g) cuts → [] ≡ routed (routes_in blocks) g
missing_at blocks cuts g is all at = sym (missing blocks g all (omega (arith, no_place (holds g) (cuts_of blocks) (rw is at at), length-cuts_of blocks)))

-- ---- how many runs there are

breaks-few : (before : Route) (routes : List Route) → breaks_behind before routes ≤ length routes
breaks-few before [] = omega arith
breaks-few before (x ∷ routes) = elim (cases_Bool (goes_on before x)) [
  | inl on ↦ rw on (omega (arith, breaks-few x routes))
  | inr off ↦ rw off (omega (arith, breaks-few x routes))
]

pub run_count-few : (routes : List Route) → run_count routes ≤ length routes
run_count-few [] = omega arith
run_count-few (x ∷ routes) = omega (arith, breaks-few x routes)

-- ---- the routes of two maps

routed-other : (x : ℕ) (targets : List Target) (rest : List Route) (g : ℕ) → nat_eq x g ≡ false → routed (route_to x targets ++ rest) g ≡ routed rest g
routed-other x [] rest g other = refl
routed-other x (t ∷ targets) rest g other = rw other refl

routed-each : (targets : ℕ → List Target) (xs : List ℕ) (g : ℕ) → routed (flat_map (λ i. route_to i (targets i)) xs) g ≡ (if has g xs then targets g else [])
routed-each targets [] g = refl
routed-each targets (x ∷ xs) g = elim (cases_eq x g) [
  | inl here ↦ rw (here, eq-eqb g g refl) (go (targets g) refl (routed-each targets xs g))
  | inr other ↦ rw (ne_eqb x g other) (routed-other x (targets x) (flat_map (λ i. route_to i (targets i)) xs) g (ne_eqb x g other) ∙ routed-each targets xs g)
]
  where
    go : (ts : List Target) → targets g ≡ ts → routed (flat_map (λ i. route_to i (targets i)) xs) g ≡ (if has g xs then targets g else [])
        → routed (route_to g ts ++ flat_map (λ i. route_to i (targets i)) xs) g ≡ ts
    go [] is later = later ∙ rw is (elim (cases_Bool (has g xs)) [ inl e ↦ rw e refl | inr e ↦ rw e refl ])
    go (t ∷ ts) is later = rw (eq-eqb g g refl) refl

pub routes_of-are : (sender receiver : PortMap) → AreRoutes sender receiver (routes_of sender receiver)
unfolding routes_of
routes_of-are sender receiver = λ g. routed-each (targets_of receiver) (indices sender) g ∙ rw (has-indices g sender) refl

-- ---- what was gathered below the end of the intervals

pub last-end : (low : ℕ) (intervals : List Interval) (x : Interval) → slice_get intervals (length intervals - 1) ≡ Some x → x.after ≡ cuts_end low intervals
last-end low [] x is = absurd cc
last-end low (y ∷ []) x is = ap (λ (i : Interval). i.after) (sym (some_same is))
  where
    some_same : Some y ≡ Some x → y ≡ x
    some_same e = cc
last-end low (y ∷ z ∷ intervals) x is = last-end y.after (z ∷ intervals) x (rw (one_less (length intervals)) at is)
  where
    one_less : (n : ℕ) → suc (suc n) - 1 ≡ suc (suc n - 1)
    one_less n = omega arith

agree : (f h : ℕ → List Route) (low : ℕ) (intervals : List Interval) (end : ℕ) → are_cuts_from low intervals ≡ true → cuts_end low intervals ≤ end → ((g : ℕ) → g < end → f g ≡ h g)
    → flat_map f (flat_map interval_indices intervals) ≡ flat_map h (flat_map interval_indices intervals)
agree f h low [] end are le same = refl
agree f h low (x ∷ intervals) end are le same =
    let first = cuts_first low x intervals are in
    let inside : x.after ≤ end = omega (arith, cuts-few x.after intervals first.later, le) in
    let here = flat_map-agree_within f h x.first (x.after - x.first) (λ k from lt. same k (omega (arith, first.some))) in
    rw (flat_map-append f (interval_indices x) (flat_map interval_indices intervals), flat_map-append h (interval_indices x) (flat_map interval_indices intervals), here, agree f h x.after intervals end first.later le same) refl

pub gathered-routes : (sender receiver : PortMap) (intervals : List Interval) (lists : List (List Target)) → are_cuts_from 0 intervals ≡ true → flat_map interval_indices intervals ≡ indices sender
    → ((g : ℕ) → g < cuts_end 0 intervals → get_or lists g [] ≡ targets_of receiver g)
    → flat_map (λ g. route_to g (get_or lists g [])) (flat_map interval_indices intervals) ≡ routes_of sender receiver
unfolding routes_of
gathered-routes sender receiver intervals lists are is targets =
    agree (λ g. route_to g (get_or lists g [])) (λ g. route_to g (targets_of receiver g)) 0 intervals (cuts_end 0 intervals) are (omega arith) (λ g lt. ap (λ ts. route_to g ts) (targets g lt))
    ∙ ap (λ xs. flat_map (λ g. route_to g (targets_of receiver g)) xs) is
