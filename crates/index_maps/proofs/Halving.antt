-- Looking for an index by halves, among ascending intervals.
use Rattle.std.proofs.Common.{◌≡◌, ℕ, zero, suc, ◌+◌, ◌-◌, ◌*◌, ◌/◌, ◌^◌, ◌<◌, ◌≤◌, true, false, List, [], ◌∷◌, length, get_or, refl, inl, inr, arith}
use Rattle.std.specs.Prelude.{Some, None}
use Rattle.std.specs.List.{position, position_or_len}
use Rattle.std.specs.declared.cmp.Ordering.TheVariants.{Less, Equal, Greater}
use Rattle.std.proofs.lemmas.Bool.{cases_lt, lt-ltb, le-ltb, lt-leb, le-leb}
use Rattle.std.proofs.lemmas.List.Sums.{position_or_len_is}
use Rattle.std.proofs.Math.Nat.{add-mul, mul-add, mul-le-mul_left, pow-suc}
use Rattle.index_maps.specs.Cuts.{are_cuts, are_cuts_from, no_interval, side_of}
use Rattle.index_maps.specs.Intervals.{holds}
use Rattle.index_maps.specs.declared.interval.Interval.{Interval}
use Rattle.index_maps.proofs.CutSteps.{cuts_first}

-- ---- the order of cuts, by their places

abbrev pub interval_at : List Interval → ℕ → Interval
interval_at intervals k = get_or intervals k no_interval

first_from : (low : ℕ) (intervals : List Interval) (k : ℕ) → are_cuts_from low intervals ≡ true → k < length intervals → low ≤ (interval_at intervals k).first
first_from low [] k are lt = absurd (omega arith)
first_from low (x ∷ xs) zero are lt = (cuts_first low x xs are).from
first_from low (x ∷ xs) (suc k) are lt =
    let h = cuts_first low x xs are in
    omega (arith, first_from x.after xs k h.later (omega arith), h.from, h.some)

some_at : (low : ℕ) (intervals : List Interval) (k : ℕ) → are_cuts_from low intervals ≡ true → k < length intervals → (interval_at intervals k).first < (interval_at intervals k).after
some_at low [] k are lt = absurd (omega arith)
some_at low (x ∷ xs) zero are lt = (cuts_first low x xs are).some
some_at low (x ∷ xs) (suc k) are lt = some_at x.after xs k (cuts_first low x xs are).later (omega arith)

-- each ends before a later one begins
apart : (low : ℕ) (intervals : List Interval) (j k : ℕ) → are_cuts_from low intervals ≡ true → j < k → k < length intervals → (interval_at intervals j).after ≤ (interval_at intervals k).first
apart low [] j k are before lt = absurd (omega arith)
apart low (x ∷ xs) j zero are before lt = absurd (omega arith)
apart low (x ∷ xs) zero (suc k) are before lt = first_from x.after xs k (cuts_first low x xs are).later (omega arith)
apart low (x ∷ xs) (suc j) (suc k) are before lt = apart x.after xs j k (cuts_first low x xs are).later (omega arith) (omega arith)

-- ---- the search

-- the intervals before the place low are below the index, and those from the place high on are past it
pub record IsHalved (intervals : List Interval) (g low high taken : ℕ) : Type 0 where
  pub within : high ≤ length intervals
  pub ends : low ≤ high
  pub below : (k : ℕ) → k < low → (interval_at intervals k).after ≤ g
  pub above : (k : ℕ) → high ≤ k → k < length intervals → g < (interval_at intervals k).first
  pub few : 2 ^ taken ≤ 2 * length intervals + 1
  pub halved : 2 ^ taken * (high - low) ≤ length intervals

pub opened : (intervals : List Interval) (g n : ℕ) → n ≡ length intervals → IsHalved intervals g 0 n 0
opened intervals g n is = record {
  within = omega arith;
  ends = omega arith;
  below = λ k lt. absurd (omega arith);
  above = λ k from lt. absurd (omega arith);
  few = omega arith;
  halved = omega arith;
}

-- one step more for half as many
few_more : (t m n : ℕ) → 0 < m → 2 ^ t * m ≤ n → 2 ^ (t + 1) ≤ 2 * n + 1
few_more t m n some le =
    let one : 2 ^ t * 1 ≤ 2 ^ t * m = mul-le-mul_left (2 ^ t) some in
    let e : t + 1 ≡ suc t = omega arith in
    rw (e, pow-suc 2 t) (omega (arith, one, le))

half_more : (t m half n : ℕ) → half + half ≤ m → 2 ^ t * m ≤ n → 2 ^ (t + 1) * half ≤ n
half_more t m half n less le =
    let e : t + 1 ≡ suc t = omega arith in
    let most : 2 ^ t * (half + half) ≤ 2 ^ t * m = mul-le-mul_left (2 ^ t) less in
    let two : 2 ^ t * 2 ≡ 2 ^ t + 2 ^ t = omega arith in
    rw (e, pow-suc 2 t, two, add-mul (2 ^ t) (2 ^ t) half, ← mul-add (2 ^ t) half half) (omega (arith, most, le))

-- ---- what one comparison tells

is_below : (g : ℕ) (x : Interval) → Less ≡ side_of g x → g < x.first
is_below g x side = elim (cases_lt g x.first) [
  | inl lt ↦ lt
  | inr ge ↦ elim (cases_lt g x.after) [
    | inl in_it ↦ let e : Less ≡ Equal = rw (le-ltb g x.first ge, lt-ltb g x.after in_it) at side in absurd cc
    | inr past ↦ let e : Less ≡ Greater = rw (le-ltb g x.first ge, le-ltb g x.after past) at side in absurd cc
  ]
]

is_in : (g : ℕ) (x : Interval) → Equal ≡ side_of g x → (x.first ≤ g) × (g < x.after)
is_in g x side = elim (cases_lt g x.first) [
  | inl lt ↦ let e : Equal ≡ Less = rw (lt-ltb g x.first lt) at side in absurd cc
  | inr ge ↦ elim (cases_lt g x.after) [
    | inl in_it ↦ (ge, in_it)
    | inr past ↦ let e : Equal ≡ Greater = rw (le-ltb g x.first ge, le-ltb g x.after past) at side in absurd cc
  ]
]

is_past : (g : ℕ) (x : Interval) → Greater ≡ side_of g x → x.after ≤ g
is_past g x side = elim (cases_lt g x.first) [
  | inl lt ↦ let e : Greater ≡ Less = rw (lt-ltb g x.first lt) at side in absurd cc
  | inr ge ↦ elim (cases_lt g x.after) [
    | inl in_it ↦ let e : Greater ≡ Equal = rw (le-ltb g x.first ge, lt-ltb g x.after in_it) at side in absurd cc
    | inr past ↦ past
  ]
]

holds_none_past : (g : ℕ) (x : Interval) → x.after ≤ g → holds g x ≡ false
holds_none_past g x past = elim (cases_lt g x.first) [
  | inl lt ↦ rw (lt-leb x.first g lt) refl
  | inr ge ↦ rw (le-leb x.first g ge, le-ltb g x.after past) refl
]

-- ---- the next half, or the place

module _ (intervals : List Interval) (g low high taken more middle : ℕ) (are : are_cuts intervals ≡ true) (on : IsHalved intervals g low high taken) (some : low < high) (is : middle ≡ low + (high - low) / 2) (next : more ≡ taken + 1) where
  middle_within : (low ≤ middle) × (middle < high)
  middle_within = (omega arith, omega arith)

  inside : middle < length intervals
  inside = omega (arith, on.within, middle_within.1)

  pub few_next : 2 ^ more ≤ 2 * length intervals + 1
  few_next = rw next (few_more taken (high - low) (length intervals) (omega arith) on.halved)

  pub front_half : Less ≡ side_of g (interval_at intervals middle) → IsHalved intervals g low middle more
  front_half side =
      let lt = is_below g (interval_at intervals middle) side in
      record {
        within = omega (arith, inside);
        ends = middle_within.0;
        below = on.below;
        above = λ k from short. elim (cases_lt middle k) [
          | inl before ↦ omega (arith, lt, some_at 0 intervals middle are inside, apart 0 intervals middle k are before short)
          | inr here ↦ let e : k ≡ middle = omega arith in rw e lt
        ];
        few = few_next;
        halved = rw next (half_more taken (high - low) (middle - low) (length intervals) (omega arith) on.halved);
      }

  pub back_half : Greater ≡ side_of g (interval_at intervals middle) → IsHalved intervals g (middle + 1) high more
  back_half side =
      let ge = is_past g (interval_at intervals middle) side in
      record {
        within = on.within;
        ends = omega (arith, middle_within.1);
        below = λ k short. elim (cases_lt k middle) [
          | inl before ↦ omega (arith, ge, some_at 0 intervals middle are inside, apart 0 intervals k middle are before inside)
          | inr here ↦ let e : k ≡ middle = omega arith in rw e ge
        ];
        above = on.above;
        few = few_next;
        halved = rw next (half_more taken (high - low) (high - (middle + 1)) (length intervals) (omega arith) on.halved);
      }

  pub place_found : Equal ≡ side_of g (interval_at intervals middle) → Some middle ≡ position (holds g) intervals
  place_found side =
      let here = is_in g (interval_at intervals middle) side in
      let e : position_or_len (holds g) intervals ≡ middle = position_or_len_is (holds g) intervals middle no_interval (omega (arith, inside))
      (λ k before. holds_none_past g (interval_at intervals k) (omega (arith, here.0, apart 0 intervals k middle are before inside)))
      (λ lt. rw (le-leb (interval_at intervals middle).first g here.0, lt-ltb g (interval_at intervals middle).after here.1) refl) in
      rw (e, lt-ltb middle (length intervals) inside) refl

-- no interval is left
pub place_none : (intervals : List Interval) (g low high taken : ℕ) → IsHalved intervals g low high taken → high ≤ low → None ≡ position (holds g) intervals
place_none intervals g low high taken on done =
    let n = length intervals in
    let e : position_or_len (holds g) intervals ≡ n = position_or_len_is (holds g) intervals n no_interval (omega arith)
    (λ k short. elim (cases_lt k low) [
      | inl before ↦ holds_none_past g (interval_at intervals k) (on.below k before)
      | inr behind ↦ rw (lt-leb (interval_at intervals k).first g (on.above k (omega arith) short)) refl
    ])
    (λ lt. absurd (omega arith)) in
    rw (e, le-ltb n n (omega arith)) refl
