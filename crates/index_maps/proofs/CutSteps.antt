-- Ascending intervals, one by one from the front, and one more at the end.
use Rattle.std.proofs.Common.{◌≡◌, ℕ, zero, suc, ◌+◌, ◌<◌, ◌≤◌, true, List, [], ◌∷◌, ◌++◌, length, get_or, take, refl, arith}
use Rattle.std.specs.Prelude.{nat_le, ◌&&◌}
use Rattle.std.proofs.lemmas.Bool.{and_parts, leb-true, ltb-true, lt-ltb, le-leb}
use Rattle.index_maps.specs.Cuts.{are_cuts_from, cuts_end}
use Rattle.index_maps.specs.Intervals.{are_apart, begins_above, is_some_interval}
use Rattle.index_maps.specs.declared.interval.Interval.{Interval}

pub record AreCutsFrom (low : ℕ) (interval : Interval) (intervals : List Interval) : Type 0 where
  pub from : low ≤ interval.first
  pub some : interval.first < interval.after
  pub later : are_cuts_from interval.after intervals ≡ true

pub cuts_first : (low : ℕ) (interval : Interval) (intervals : List Interval) → are_cuts_from low (interval ∷ intervals) ≡ true → AreCutsFrom low interval intervals
cuts_first low interval intervals are =
    let parts = and_parts (nat_le low interval.first && is_some_interval interval) (are_cuts_from interval.after intervals) are in
    let front = and_parts (nat_le low interval.first) (is_some_interval interval) parts.0 in
    record { from = leb-true low interval.first front.0; some = ltb-true interval.first interval.after front.1; later = parts.1 }

pub cuts_more : (low : ℕ) (interval : Interval) (intervals : List Interval) → low ≤ interval.first → interval.first < interval.after → are_cuts_from interval.after intervals ≡ true → are_cuts_from low (interval ∷ intervals) ≡ true
cuts_more low interval intervals from some later = rw (le-leb low interval.first from, lt-ltb interval.first interval.after some) later

-- each is at least one index long
pub cuts-few : (low : ℕ) (intervals : List Interval) → are_cuts_from low intervals ≡ true → low + length intervals ≤ cuts_end low intervals
cuts-few low [] are = omega arith
cuts-few low (x ∷ xs) are =
    let h = cuts_first low x xs are in
    omega (arith, cuts-few x.after xs h.later, h.from, h.some)

-- ---- one more at the end

pub cuts-push : (low : ℕ) (intervals : List Interval) (x : Interval) → are_cuts_from low intervals ≡ true → cuts_end low intervals ≤ x.first → x.first < x.after → are_cuts_from low (intervals ++ x ∷ []) ≡ true
cuts-push low [] x are from some = cuts_more low x [] from some refl
cuts-push low (y ∷ ys) x are from some = let h = cuts_first low y ys are in cuts_more low y (ys ++ x ∷ []) h.from h.some (cuts-push y.after ys x h.later from some)

pub cuts_end-push : (low : ℕ) (intervals : List Interval) (x : Interval) → cuts_end low (intervals ++ x ∷ []) ≡ x.after
cuts_end-push low [] x = refl
cuts_end-push low (y ∷ ys) x = cuts_end-push y.after ys x

-- and what holds without it
pub cuts-front : (low : ℕ) (intervals : List Interval) (x : Interval) → are_cuts_from low (intervals ++ x ∷ []) ≡ true → (are_cuts_from low intervals ≡ true) × (cuts_end low intervals ≤ x.first)
cuts-front low [] x are = (refl, (cuts_first low x [] are).from)
cuts-front low (y ∷ ys) x are =
    let h = cuts_first low y (ys ++ x ∷ []) are in
    let front = cuts-front y.after ys x h.later in
    (cuts_more low y ys h.from h.some front.0, front.1)

-- ---- intervals of which no two touch

cuts-apart_from : (low : ℕ) (intervals : List Interval) → are_apart intervals ≡ true → begins_above low intervals ≡ true → are_cuts_from low intervals ≡ true
cuts-apart_from low [] apart above = refl
cuts-apart_from low (x ∷ xs) apart above =
    let parts = and_parts (is_some_interval x && begins_above x.after xs) (are_apart xs) apart in
    let front = and_parts (is_some_interval x) (begins_above x.after xs) parts.0 in
    let from : low < x.first = ltb-true low x.first above in
    cuts_more low x xs (omega arith) (ltb-true x.first x.after front.0) (cuts-apart_from x.after xs parts.1 front.1)

pub cuts-apart : (intervals : List Interval) → are_apart intervals ≡ true → are_cuts_from 0 intervals ≡ true
cuts-apart [] apart = refl
cuts-apart (x ∷ xs) apart =
    let parts = and_parts (is_some_interval x && begins_above x.after xs) (are_apart xs) apart in
    let front = and_parts (is_some_interval x) (begins_above x.after xs) parts.0 in
    cuts_more 0 x xs (omega arith) (ltb-true x.first x.after front.0) (cuts-apart_from x.after xs parts.1 front.1)

-- ---- by places

pub record AreCutsAt (low : ℕ) (intervals : List Interval) (i : ℕ) (x : Interval) : Type 0 where
  pub before : cuts_end low (take i intervals) ≤ x.first
  pub some : x.first < x.after
  pub after : cuts_end low (take (i + 1) intervals) ≡ x.after

pub cuts-at : (low : ℕ) (intervals : List Interval) (i : ℕ) (d : Interval) → are_cuts_from low intervals ≡ true → i < length intervals → AreCutsAt low intervals i (get_or intervals i d)
cuts-at low [] i d are lt = absurd (omega arith)
cuts-at low (x ∷ xs) zero d are lt = let h = cuts_first low x xs are in record { before = h.from; some = h.some; after = refl }
cuts-at low (x ∷ xs) (suc i) d are lt =
    let rest = cuts-at x.after xs i d (cuts_first low x xs are).later (omega arith) in
    let e : suc i + 1 ≡ suc (i + 1) = omega arith in
    record { before = rest.before; some = rest.some; after = rw e rest.after }
