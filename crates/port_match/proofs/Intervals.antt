-- What intervals tell of the indices that they hold.
use Rattle.std.proofs.Common.{◌≡◌, ℕ, zero, suc, ◌+◌, ◌-◌, ◌<◌, ◌≤◌, Bool, true, false, List, [], ◌∷◌, length, refl, sym, ap, ◌∙◌, inl, inr, arith}
use Rattle.std.specs.Prelude.{⊤, nat_le, nat_lt, ◌&&◌}
use Rattle.std.specs.List.{list_all, list_any, range_with_len, flat_map}
use Rattle.std.proofs.lemmas.Bool.{cases_lt, and_parts, lt-ltb, le-ltb, lt-leb, le-leb, ltb-true}
use Rattle.std.proofs.lemmas.List.Folds.{list_all-append}
use Rattle.index_maps.specs.Intervals.{are_apart, begins_above, holds, interval_indices, is_some_interval}
use Rattle.index_maps.specs.Maps.{indices, maps_index}
use Rattle.index_maps.specs.declared.interval.Interval.{Interval}
use Rattle.index_maps.specs.declared.map.PortMap.{PortMap}
use Rattle.index_maps.proofs.Ascending.{has-indices}
use Rattle.index_maps.proofs.Counts.{has}
use Rattle.index_maps.proofs.Spans.{has-intervals}
use Rattle.port_match.specs.Covering.{from_end_above, is_in_first}

-- ---- intervals that stand apart

-- the first is not empty, the next begins above its end, and the others stand apart
record Parts (interval : Interval) (intervals : List Interval) : Type 0 where
  some : interval.first < interval.after
  above : begins_above interval.after intervals ≡ true
  apart : are_apart intervals ≡ true

parts : (interval : Interval) (intervals : List Interval) → are_apart (interval ∷ intervals) ≡ true → Parts interval intervals
parts interval intervals apart =
    let all = and_parts (is_some_interval interval && begins_above interval.after intervals) (are_apart intervals) apart in
    let front = and_parts (is_some_interval interval) (begins_above interval.after intervals) all.0 in
    record { some = ltb-true interval.first interval.after front.0; above = front.1; apart = all.1 }

-- ---- consecutive indices

and_false : (b : Bool) → (b && false) ≡ false
and_false true = refl
and_false false = refl

all_true : (p : ℕ → Bool) (a n : ℕ) → ((g : ℕ) → a ≤ g → g < a + n → p g ≡ true) → list_all p (range_with_len a n) ≡ true
all_true p a zero all = refl
all_true p a (suc n) all = rw (all a (omega arith) (omega arith)) (all_true p (a + 1) n (λ g ge lt. all g (omega arith) (omega arith)))

one_false : (p : ℕ → Bool) (a n x : ℕ) → a ≤ x → x < a + n → p x ≡ false → list_all p (range_with_len a n) ≡ false
one_false p a zero x ge lt is = absurd (omega arith)
one_false p a (suc n) x ge lt is = elim (cases_lt a x) [
  | inl later ↦ rw (one_false p (a + 1) n x (omega arith) (omega arith) is) (and_false (p a))
  | inr here ↦ let e : x ≡ a = omega arith in let first : p a ≡ false = rw e at is in rw first refl
]

-- ---- below a width

below-interval : (w : ℕ) (interval : Interval) → interval.first < interval.after → list_all (λ g. nat_lt g w) (interval_indices interval) ≡ nat_le interval.after w
below-interval w interval some = elim (cases_lt w interval.after) [
  | inl past ↦
      rw (lt-leb interval.after w past)
      (one_false (λ g. nat_lt g w) interval.first (interval.after - interval.first) (interval.after - 1) (omega arith) (omega arith) (le-ltb (interval.after - 1) w (omega arith)))
  | inr within ↦
      rw (le-leb interval.after w within)
      (all_true (λ g. nat_lt g w) interval.first (interval.after - interval.first) (λ g ge lt. lt-ltb g w (omega arith)))
]

-- all indices are below a width where no interval ends past it
pub below_intervals : (w : ℕ) (intervals : List Interval) → are_apart intervals ≡ true → list_all (λ (interval : Interval). nat_le interval.after w) intervals ≡ list_all (λ g. nat_lt g w) (flat_map interval_indices intervals)
below_intervals w [] apart = refl
below_intervals w (interval ∷ intervals) apart =
    let is = parts interval intervals apart in
    sym (list_all-append (λ g. nat_lt g w) (interval_indices interval) (flat_map interval_indices intervals)
    ∙ rw (below-interval w interval is.some, below_intervals w intervals is.apart) refl)

-- ---- the intervals from an index on

apart-from_end_above : (g : ℕ) (intervals : List Interval) → are_apart intervals ≡ true → are_apart (from_end_above g intervals) ≡ true
apart-from_end_above g [] apart = refl
apart-from_end_above g (interval ∷ intervals) apart = elim (cases_lt g interval.after) [
  | inl above ↦ rw (lt-ltb g interval.after above) apart
  | inr past ↦ rw (le-ltb g interval.after past) (apart-from_end_above g intervals (parts interval intervals apart).apart)
]

-- the first that is left ends above the index
abbrev EndsAbove : ℕ → List Interval → Type 0
EndsAbove g [] = ⊤
EndsAbove g (interval ∷ intervals) = g < interval.after

ends_above : (g : ℕ) (intervals : List Interval) → EndsAbove g (from_end_above g intervals)
ends_above g [] = tt
ends_above g (interval ∷ intervals) = elim (cases_lt g interval.after) [
  | inl above ↦ rw (lt-ltb g interval.after above) above
  | inr past ↦ rw (le-ltb g interval.after past) (ends_above g intervals)
]

past_end : (x : ℕ) (interval : Interval) → interval.after ≤ x → holds x interval ≡ false
past_end x interval past = rw (le-ltb x interval.after past) (and_false (nat_le interval.first x))

-- no index from there on is lost
holds-from_end_above : (g x : ℕ) (intervals : List Interval) → g ≤ x → list_any (holds x) (from_end_above g intervals) ≡ list_any (holds x) intervals
holds-from_end_above g x [] from = refl
holds-from_end_above g x (interval ∷ intervals) from = elim (cases_lt g interval.after) [
  | inl above ↦ rw (lt-ltb g interval.after above) refl
  | inr past ↦ rw (le-ltb g interval.after past, past_end x interval (omega arith)) (holds-from_end_above g x intervals from)
]

-- an index at or below what they begin above is in none of them
none_low : (g end : ℕ) (intervals : List Interval) → g ≤ end → begins_above end intervals ≡ true → are_apart intervals ≡ true → list_any (holds g) intervals ≡ false
none_low g end [] low above apart = refl
none_low g end (interval ∷ intervals) low above apart =
    let is = parts interval intervals apart in
    let begins : end < interval.first = ltb-true end interval.first above in
    let some : interval.first < interval.after = is.some in
    rw (lt-leb interval.first g (omega arith)) (none_low g interval.after intervals (omega arith) is.above is.apart)

-- ---- one interval within others

-- p tells from the index g on which indices they hold
abbrev Tells : (ℕ → Bool) → ℕ → List Interval → Type 0
Tells p g intervals = (x : ℕ) → g ≤ x → list_any (holds x) intervals ≡ p x

in_first : (p : ℕ → Bool) (inner : Interval) (intervals : List Interval) → inner.first < inner.after → are_apart intervals ≡ true → EndsAbove inner.first intervals → Tells p inner.first intervals
    → is_in_first intervals inner ≡ list_all p (interval_indices inner)
in_first p inner [] some apart ends tells = sym (one_false p inner.first (inner.after - inner.first) inner.first (omega arith) (omega arith) (sym (tells inner.first (omega arith))))
in_first p inner (interval ∷ intervals) some apart ends tells =
    let is = parts interval intervals apart in
    let full : interval.first < interval.after = is.some in
    let reaches : inner.first < interval.after = ends in
    elim (cases_lt inner.first interval.first) [
      | inl before ↦
          let outside : holds inner.first interval ≡ false = rw (lt-leb interval.first inner.first before) refl in
          let others : list_any (holds inner.first) intervals ≡ false = none_low inner.first interval.after intervals (omega arith) is.above is.apart in
          let none : list_any (holds inner.first) (interval ∷ intervals) ≡ false = rw (outside, others) refl in
          rw (lt-leb interval.first inner.first before)
          (sym (one_false p inner.first (inner.after - inner.first) inner.first (omega arith) (omega arith) (sym (tells inner.first (omega arith)) ∙ none)))
      | inr from ↦ elim (cases_lt interval.after inner.after) [
        | inl beyond ↦
            let others : list_any (holds interval.after) intervals ≡ false = none_low interval.after interval.after intervals (omega arith) is.above is.apart in
            let none : list_any (holds interval.after) (interval ∷ intervals) ≡ false = rw (past_end interval.after interval (omega arith), others) refl in
            rw (le-leb interval.first inner.first from, lt-leb inner.after interval.after beyond)
            (sym (one_false p inner.first (inner.after - inner.first) interval.after (omega arith) (omega arith) (sym (tells interval.after (omega arith)) ∙ none)))
        | inr within ↦
            rw (le-leb interval.first inner.first from, le-leb inner.after interval.after within)
            (sym (all_true p inner.first (inner.after - inner.first) (λ g ge lt.
            sym (tells g ge) ∙ rw (le-leb interval.first g (omega arith), lt-ltb g interval.after (omega arith)) refl)))
      ]
    ]

-- ---- all intervals within others

-- both gone through side by side
abbrev pub covered : List Interval → List Interval → Bool
covered outer [] = true
covered outer (inner ∷ inners) =
    let rest = from_end_above inner.first outer in
    is_in_first rest inner && covered rest inners

pub covered-none : (outer inners : List Interval) → length inners ≡ 0 → true ≡ covered outer inners
covered-none outer [] none = refl
covered-none outer (inner ∷ inners) none = absurd (omega (arith, none))

abbrev BeginFrom : ℕ → List Interval → Type 0
BeginFrom low [] = ⊤
BeginFrom low (interval ∷ intervals) = low ≤ interval.first

begin_from : (low end : ℕ) (intervals : List Interval) → low ≤ end → begins_above end intervals ≡ true → BeginFrom low intervals
begin_from low end [] le above = tt
begin_from low end (interval ∷ intervals) le above = let begins : end < interval.first = ltb-true end interval.first above in omega arith

covered-tells : (p : ℕ → Bool) (low : ℕ) (outer inners : List Interval) → are_apart outer ≡ true → are_apart inners ≡ true → BeginFrom low inners → Tells p low outer
    → covered outer inners ≡ list_all p (flat_map interval_indices inners)
covered-tells p low outer [] apart inner_apart from tells = refl
covered-tells p low outer (inner ∷ inners) apart inner_apart from tells =
    let is = parts inner inners inner_apart in
    let some : inner.first < inner.after = is.some in
    let begins : low ≤ inner.first = from in
    let rest : List Interval = from_end_above inner.first outer in
    let rest_apart : are_apart rest ≡ true = apart-from_end_above inner.first outer apart in
    let rest_tells : Tells p inner.first rest = λ x ge. holds-from_end_above inner.first x outer ge ∙ tells x (omega arith) in
    let here : is_in_first rest inner ≡ list_all p (interval_indices inner) = in_first p inner rest some rest_apart (ends_above inner.first outer) rest_tells in
    let on : covered rest inners ≡ list_all p (flat_map interval_indices inners) =
    covered-tells p inner.first rest inners rest_apart is.apart (begin_from inner.first inner.after inners (omega arith) is.above) rest_tells in
    rw (here, on) (sym (list_all-append p (interval_indices inner) (flat_map interval_indices inners)))

pub covered_holds : (outer inners : List Interval) → are_apart outer ≡ true → are_apart inners ≡ true → covered outer inners ≡ list_all (λ g. list_any (holds g) outer) (flat_map interval_indices inners)
covered_holds outer [] apart inner_apart = refl
covered_holds outer (inner ∷ inners) apart inner_apart = covered-tells (λ g. list_any (holds g) outer) 0 outer (inner ∷ inners) apart inner_apart (omega arith) (λ x ge. refl)

-- ---- the indices of a map

all_agree : (p q : ℕ → Bool) → ((g : ℕ) → p g ≡ q g) → (xs : List ℕ) → list_all p xs ≡ list_all q xs
all_agree p q same [] = refl
all_agree p q same (x ∷ xs) = rw (same x, all_agree p q same xs) refl

-- intervals of the indices of a map hold what the map maps
pub all_maps_index : (map : PortMap) (intervals : List Interval) (xs : List ℕ) → are_apart intervals ≡ true → flat_map interval_indices intervals ≡ indices map
    → list_all (λ g. list_any (holds g) intervals) xs ≡ list_all (maps_index map) xs
all_maps_index map intervals xs apart same =
    all_agree (λ g. list_any (holds g) intervals) (maps_index map) (λ g. sym (has-intervals g intervals apart) ∙ ap (λ (list : List ℕ). has g list) same ∙ has-indices g map) xs
