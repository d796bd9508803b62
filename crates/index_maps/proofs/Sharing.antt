-- The least index that two intervals hold, where these are in the order of their first indices.
use Rattle.std.proofs.Common.{◌≡◌, ℕ, ◌+◌, ◌<◌, ◌≤◌, List, [], ◌∷◌, length, drop, get_or, refl, sym, ◌∙◌, inl, inr, arith}
use Rattle.std.specs.Prelude.{nat_le, nat_lt, ◌&&◌, if◌then◌else◌, Option, Some, None}
use Rattle.std.specs.List.{count_by}
use Rattle.std.proofs.lemmas.Bool.{cases_lt, cases_Bool, lt-ltb, le-ltb, lt-leb, le-leb}
use Rattle.std.proofs.lemmas.List.{drop_more, drop_all}
use Rattle.index_maps.specs.Intervals.{holds}
use Rattle.index_maps.specs.declared.interval.Interval.{Interval}
use Rattle.index_maps.proofs.Counts.{count_by-cons}
use Rattle.index_maps.proofs.Joining.{AreInOrder}

-- the first of the intervals that begins before the reach of the one before it
abbrev pub least_behind : ℕ → List Interval → Option ℕ
least_behind reach [] = None
least_behind reach (span ∷ spans) = if nat_lt span.first reach then Some span.first else least_behind span.after spans

-- 1 where an index is in an interval
abbrev pub within : ℕ → ℕ → ℕ → ℕ
within low reach g = if nat_le low g && nat_lt g reach then 1 else 0

-- how many hold an index, with one more interval from low up to the reach
abbrev pub shares : ℕ → ℕ → List Interval → ℕ → ℕ
shares low reach spans g = within low reach g + count_by (holds g) spans

abbrev pub Tells : ℕ → ℕ → List Interval → Option ℕ → Type 0
Tells low reach spans None = (g : ℕ) → shares low reach spans g ≤ 1
Tells low reach spans (Some f) = (1 < shares low reach spans f) × ((g : ℕ) → g < f → shares low reach spans g ≤ 1)

within-one : (low reach g : ℕ) → within low reach g ≤ 1
within-one low reach g = elim (cases_Bool (nat_le low g && nat_lt g reach)) [ inl e ↦ rw e (omega arith) | inr e ↦ rw e (omega arith) ]

within-before : (low reach g : ℕ) → g < low → within low reach g ≡ 0
within-before low reach g lt = rw (lt-leb low g lt) refl

within-behind : (low reach g : ℕ) → reach ≤ g → within low reach g ≡ 0
within-behind low reach g le = elim (cases_Bool (nat_le low g)) [ inl e ↦ rw (e, le-ltb g reach le) refl | inr e ↦ rw e refl ]

within-at : (low reach g : ℕ) → low ≤ g → g < reach → within low reach g ≡ 1
within-at low reach g le lt = rw (le-leb low g le, lt-ltb g reach lt) refl

count-before : (low g : ℕ) (spans : List Interval) → g < low → AreInOrder low spans → count_by (holds g) spans ≡ 0
count-before low g [] lt ordered = refl
count-before low g (span ∷ spans) lt ordered =
    let from : low ≤ span.first = ordered.0 in
    count_by-cons (holds g) span spans ∙ omega (arith, within-before span.first span.after g (omega arith), count-before span.first g spans (omega arith) ordered.2)

few : (low reach : ℕ) (span : Interval) (spans : List Interval) (g : ℕ) → low ≤ reach → reach ≤ span.first → AreInOrder span.first spans
    → shares span.first span.after spans g ≤ 1 → shares low reach (span ∷ spans) g ≤ 1
few low reach span spans g le apart ordered at_most = elim (cases_lt g reach) [
  | inl before ↦ omega (arith, count_by-cons (holds g) span spans, within-one low reach g, within-before span.first span.after g (omega arith), count-before span.first g spans (omega arith) ordered)
  | inr behind ↦ omega (arith, count_by-cons (holds g) span spans, within-behind low reach g behind, at_most)
]

goes_on : (low reach : ℕ) (span : Interval) (spans : List Interval) (r : Option ℕ) → low ≤ reach → reach ≤ span.first → AreInOrder span.first spans
    → Tells span.first span.after spans r → Tells low reach (span ∷ spans) r
goes_on low reach span spans None le apart ordered told = λ g. few low reach span spans g le apart ordered (told g)
goes_on low reach span spans (Some f) le apart ordered told =
    let many : 1 < shares span.first span.after spans f = told.0 in
    let more : 1 < shares low reach (span ∷ spans) f = omega (arith, count_by-cons (holds f) span spans, many) in
    (more, λ g lt. few low reach span spans g le apart ordered (told.1 g lt))

pub tells : (low reach : ℕ) (spans : List Interval) → low ≤ reach → AreInOrder low spans → Tells low reach spans (least_behind reach spans)
tells low reach [] le ordered = λ g. omega (arith, within-one low reach g)
tells low reach (span ∷ spans) le ordered = elim (cases_lt span.first reach) [
  | inl shared ↦
      let from : low ≤ span.first = ordered.0 in
      let here : 1 < shares low reach (span ∷ spans) span.first =
      omega (arith, count_by-cons (holds span.first) span spans, within-at low reach span.first from shared, within-at span.first span.after span.first (omega arith) ordered.1) in
      let before : (g : ℕ) → g < span.first → shares low reach (span ∷ spans) g ≤ 1 =
      λ g lt. omega (arith, count_by-cons (holds g) span spans, within-one low reach g, within-before span.first span.after g lt, count-before span.first g spans lt ordered.2) in
      rw (lt-ltb span.first reach shared) (here, before)
  | inr apart ↦
      let reaches : span.first < span.after = ordered.1 in
      rw (le-ltb span.first reach apart) (goes_on low reach span spans (least_behind span.after spans) le apart ordered.2 (tells span.first span.after spans (omega arith) ordered.2))
]

-- ---- from the start

pub least-none : (spans : List Interval) → AreInOrder 0 spans → least_behind 0 spans ≡ None → (g : ℕ) → count_by (holds g) spans ≤ 1
least-none spans ordered is g =
    let told : Tells 0 0 spans None = rw is at (tells 0 0 spans (omega arith) ordered) in
    omega (arith, told g)

pub least-some : (spans : List Interval) (f : ℕ) → AreInOrder 0 spans → least_behind 0 spans ≡ Some f → (1 < count_by (holds f) spans) × ((g : ℕ) → g < f → count_by (holds g) spans ≤ 1)
least-some spans f ordered is =
    let told : Tells 0 0 spans (Some f) = rw is at (tells 0 0 spans (omega arith) ordered) in
    let many : 1 < shares 0 0 spans f = told.0 in
    let more : 1 < count_by (holds f) spans = omega (arith, many, within-behind 0 0 f (omega arith)) in
    (more, λ g lt. omega (arith, told.1 g lt))

-- ---- in steps

pub least_found : (spans : List Interval) (i reach : ℕ) (d : Interval) → i < length spans → (get_or spans i d).first < reach → least_behind reach (drop i spans) ≡ least_behind 0 spans → least_behind 0 spans ≡ Some (get_or spans i d).first
least_found spans i reach d lt shared so_far = sym so_far ∙ rw (drop_more spans i d lt, lt-ltb (get_or spans i d).first reach shared) refl

pub least_goes_on : (spans : List Interval) (i reach : ℕ) (d : Interval) → i < length spans → reach ≤ (get_or spans i d).first → least_behind reach (drop i spans) ≡ least_behind 0 spans → least_behind (get_or spans i d).after (drop (i + 1) spans) ≡ least_behind 0 spans
least_goes_on spans i reach d lt apart so_far = rw (drop_more spans i d lt, le-ltb (get_or spans i d).first reach apart) at so_far

pub least_at_end : (spans : List Interval) (i reach : ℕ) → length spans ≤ i → least_behind reach (drop i spans) ≡ least_behind 0 spans → least_behind 0 spans ≡ None
least_at_end spans i reach ge so_far = sym (rw (drop_all i spans ge) at so_far)
