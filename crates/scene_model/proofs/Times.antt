-- Times that are a period apart.
use Rattle.std.proofs.Common.{◌≡◌, ◌↔◌, ℕ, zero, suc, ◌+◌, ◌-◌, ◌*◌, ◌<◌, ◌≤◌, [], ◌++◌, map, length, refl, sym, ap, subst, ◌∙◌, inl, inr, arith, zero-add}
use Rattle.std.specs.Int.{div_ceil}
use Rattle.std.specs.Prelude.{Contains}
use Rattle.std.specs.List.{flat_map, range_with_len, AllByRecursion}
use Rattle.std.proofs.lemmas.Bool.{cases_lt}
use Rattle.std.proofs.lemmas.List.{append-nil, map-append}
use Rattle.std.proofs.lemmas.List.Concat.{flat_map-append}
use Rattle.std.proofs.lemmas.List.FromFn.{length-map-range_with_len, get_or-map-range_with_len}
use Rattle.music_base.specs.Numbers.{below}
use Rattle.music_base.proofs.Divisions.{lt-div_ceil}
use Rattle.music_base.proofs.Lists.{All-between, All-map, range_with_len-append, range_with_len-more}
use Rattle.scene_model.specs.Turns.{times_below, times_between}
use Rattle.scene_model.specs.PeriodTimes.{IsTimeBetween}

-- the times below an end are counted
pub lt-times_below : (every first end i : ℕ) → 1 ≤ every → (i < times_below every first end) ↔ (first + i * every < end)
unfolding times_below
lt-times_below every first end i pos =
    let counts : (i < div_ceil (end - first) every) ↔ (i * every < end - first) = lt-div_ceil i (end - first) every pos in
    (λ h. let lt : i * every < end - first = counts.0 h in omega arith, λ h. counts.1 (omega arith))

-- the times between two ends are just those
pub Contains-times_between : (every first from to time : ℕ) → 1 ≤ every → Contains (times_between every first from to) time ↔ IsTimeBetween every first from to time
unfolding times_between
Contains-times_between every first from to time pos =
    let a : ℕ = times_below every first from in
    let n : ℕ = times_below every first to - times_below every first from in
    let at : ℕ → ℕ = λ i. first + i * every in
    let size : length (map at (range_with_len a n)) ≡ n = length-map-range_with_len at a n in (
      λ (c : Contains (map at (range_with_len a n)) time).
          let inside : c.0 < n = omega (arith, c.1, size) in
          let is : time ≡ first + (a + c.0) * every = sym c.2 ∙ get_or-map-range_with_len at a n c.0 (a + c.0) time inside refl in
          let early : (a + c.0 < a) ↔ (first + (a + c.0) * every < from) = lt-times_below every first from (a + c.0) pos in
          let late : (a + c.0 < times_below every first to) ↔ (first + (a + c.0) * every < to) = lt-times_below every first to (a + c.0) pos in
          let least : from ≤ first + (a + c.0) * every = elim (cases_lt (first + (a + c.0) * every) from) [
            | inl lt ↦ absurd (let no_more : a + c.0 < a = early.1 lt in omega arith)
            | inr le ↦ le
          ] in
          let below_end : first + (a + c.0) * every < to = late.0 (omega arith) in
          record { periods = a + c.0; is = is; least = omega arith; below = omega arith },
      λ (t : IsTimeBetween every first from to time).
          let late : t.periods < times_below every first to = (lt-times_below every first to t.periods pos).1 (omega (arith, t.is, t.below)) in
          let early : a ≤ t.periods = elim (cases_lt t.periods a) [
            | inl lt ↦ absurd (let before : first + t.periods * every < from = (lt-times_below every first from t.periods pos).0 lt in omega (arith, t.is, t.least))
            | inr le ↦ le
          ] in
          let inside : t.periods - a < n = omega arith in
          (t.periods - a, omega (arith, size), get_or-map-range_with_len at a n (t.periods - a) t.periods time inside (omega arith) ∙ sym t.is),
    )

-- each of the times between two ends lies between them
pub times_between-within : (every first from to : ℕ) → 1 ≤ every → AllByRecursion (λ t. (from ≤ t) × (t < to)) (times_between every first from to)
unfolding times_between
times_between-within every first from to pos = All-map _ _ _ (All-between _ _ _ each)
  where
    each : (i : ℕ) → times_below every first from ≤ i → i < times_below every first from + (times_below every first to - times_below every first from)
        → (from ≤ first + i * every) × (first + i * every < to)
    each i low high = (
      elim (cases_lt (first + i * every) from) [
        | inl lt ↦ absurd (let early : i < times_below every first from = (lt-times_below every first from i pos).1 lt in omega arith)
        | inr le ↦ le
      ],
      (lt-times_below every first to i pos).0 (omega arith),
    )
