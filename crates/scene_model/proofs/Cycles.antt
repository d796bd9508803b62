-- When every cycle of some waits is covered, and when one is not.
use Rattle.std.proofs.Common.{◌≡◌, ℕ, ◌+◌, ◌<◌, ◌≤◌, ℤ, pos, ◌+ℤ◌, ◌-ℤ◌, ◌*ℤ◌, ◌≤ℤ◌, ◌<ℤ◌, List, [], ◌∷◌, ◌++◌, length, take, drop, get_or, suc, refl, ap, arith}
use Rattle.std.proofs.lemmas.Int.{ints, by_lt_z}
use Rattle.std.proofs.lemmas.List.{drop_more}
use Rattle.std.proofs.lemmas.List.Elements.{All-tail, All-contains, All-head, All-take, All-drop, All-append, All-weaker}
use Rattle.std.specs.List.{All, Contains}
use Rattle.scene_model.specs.declared.wait.Wait.{Wait}
use Rattle.scene_model.specs.Cover.{IsWalk, AreAmong, IsCycleOf, allowances, burdens, AllCovered, IsUncovered, HasUncovered, WaitsOnce, StartsLeast, IsReportable, potential, Passes, IsWithin}
use Rattle.scene_model.proofs.Walks.{scaled-sub, scaled-add, scaled-ge, scaled-le-zero, sum_of-turned, IsCycle-turned, count_at-turned, length-le_from_once}

-- ---- waits that pass the test of potentials

-- n times what the allowances of a walk exceed its burdens by
abbrev scaled_excess : ℕ → List Wait → ℤ
scaled_excess n ws = pos n *ℤ (allowances ws -ℤ burdens ws)

scaled_excess-cons : (n : ℕ) (w : Wait) (ws : List Wait) → scaled_excess n (w ∷ ws) ≡ pos n *ℤ (w.allowance -ℤ w.burden) +ℤ scaled_excess n ws
scaled_excess-cons n w ws =
    omega (
      arith,
      ints,
      scaled-sub n w.allowance w.burden,
      scaled-sub n (allowances ws) (burdens ws),
      scaled-sub n (w.allowance +ℤ allowances ws) (w.burden +ℤ burdens ws),
      scaled-add n w.allowance (allowances ws),
      scaled-add n w.burden (burdens ws),
    )

scaled_excess-nil : (n : ℕ) → scaled_excess n [] ≡ pos 0
scaled_excess-nil n = omega (arith, ints, scaled-sub n (pos 0) (pos 0))

-- along a walk of them the excess makes up for the potentials of its ends, and one more for each wait
walk_passed : (n : ℕ) (p : List ℤ) (all : List Wait) (a : ℕ) (ws : List Wait) (b : ℕ) → All (Passes n p) all → AreAmong all ws → IsWalk a ws b →
    pos (length ws) ≤ℤ (scaled_excess n ws +ℤ potential p a -ℤ potential p b)
walk_passed n p all a [] b passed among walk =
    let e : potential p a ≡ potential p b = ap (λ z. potential p z) walk in
    omega (arith, ints, e, scaled_excess-nil n)
walk_passed n p all a (w ∷ ws) b passed among walk =
    let pass : Passes n p w = All-contains (Passes n p) all w passed (All-head (Contains all) w ws among) in
    let e : potential p w.waiter ≡ potential p a = ap (λ z. potential p z) walk.0 in
    omega (arith, ints, e, pass, scaled_excess-cons n w ws, walk_passed n p all w.awaited ws b passed (All-tail (Contains all) w ws among) walk.1)

excess-positive : (n len : ℕ) (c : ℤ) → pos (suc len) ≤ℤ (pos n *ℤ c) → pos 0 <ℤ c
excess-positive n len c high = by_lt_z (pos 0) c (λ yes. yes) (λ no. absurd (omega (arith, ints, high, scaled-le-zero n c no)))

pub passed_are_covered : (n : ℕ) (p : List ℤ) (all : List Wait) → All (Passes n p) all → AllCovered all
passed_are_covered n p all passed [] cycle = absurd cycle.closed
passed_are_covered n p all passed (w ∷ ws) cycle = record {
  covered =
      let whole = walk_passed n p all w.waiter (w ∷ ws) w.waiter passed cycle.among (refl, cycle.closed) in
      let more : pos 0 <ℤ (allowances (w ∷ ws) -ℤ burdens (w ∷ ws)) =
      excess-positive n (length ws) (allowances (w ∷ ws) -ℤ burdens (w ∷ ws)) (omega (arith, ints, whole)) in
      omega (arith, ints, more);
}

-- ---- no waits are both

pub covered_or_not : (all : List Wait) → AllCovered all → HasUncovered all → ⊥
covered_or_not all covered has = let c = covered has.0 has.1.cycle_of in omega (arith, ints, c.covered, has.1.uncovered)

-- ---- their order, and how often each stands there, make no difference

abbrev pub HasAll : List Wait → List Wait → Type 0
HasAll more fewer = (w : Wait) → Contains fewer w → Contains more w

pub IsCycleOf-more : (more fewer cycle : List Wait) → HasAll more fewer → IsCycleOf fewer cycle → IsCycleOf more cycle
IsCycleOf-more more fewer cycle has h = record { closed = h.closed; among = All-weaker (Contains fewer) (Contains more) has cycle h.among }

pub AllCovered-fewer : (more fewer : List Wait) → HasAll more fewer → AllCovered more → AllCovered fewer
AllCovered-fewer more fewer has covered cycle h = covered cycle (IsCycleOf-more more fewer cycle has h)

pub IsUncovered-more : (more fewer cycle : List Wait) → HasAll more fewer → IsUncovered fewer cycle → IsUncovered more cycle
IsUncovered-more more fewer cycle has h = record { cycle_of = IsCycleOf-more more fewer cycle has h.cycle_of; uncovered = h.uncovered }

pub HasUncovered-more : (more fewer : List Wait) → HasAll more fewer → HasUncovered fewer → HasUncovered more
HasUncovered-more more fewer has h = (h.0, IsUncovered-more more fewer h.0 has h.1)

-- ---- what holds of each of the waits holds of each of a list of them

pub All-among : (P : Wait → Type 0) (all ws : List Wait) → All P all → AreAmong all ws → All P ws
All-among P all ws each among = All-weaker (Contains all) P (λ w in'. All-contains P all w each in') ws among

-- ---- the cycle that is reported

-- it has at most as many waits as there are applications
pub IsReportable-short : (n : ℕ) (all cycle : List Wait) → All (IsWithin n) all → IsReportable all cycle → length cycle ≤ n
IsReportable-short n all cycle within found =
    let each : All (IsWithin n) cycle = All-among (IsWithin n) all cycle within found.uncovered.cycle_of.among in
    length-le_from_once (λ w. w.waiter) n cycle (All-weaker (IsWithin n) (λ w. w.waiter < n) (λ w h. h.waiter) cycle each) found.once

-- a short list whose n-fold excess is below its length is not covered
pub uncovered_from_excess : (n : ℕ) (ws : List Wait) → length ws ≤ n → (pos n *ℤ (allowances ws -ℤ burdens ws)) <ℤ pos (length ws) → allowances ws ≤ℤ burdens ws
uncovered_from_excess n ws short low =
    let c = allowances ws -ℤ burdens ws in
    let no_more : c ≤ℤ pos 0 = by_lt_z (pos 0) c (λ yes. absurd (omega (arith, ints, short, low, scaled-ge n c (omega (arith, ints, yes))))) (λ no. no) in
    omega (arith, ints, no_more)

StartsLeast-turned : (xs : List Wait) (k : ℕ) (d : Wait) → k < length xs → All (λ w. (get_or xs k d).waiter ≤ w.waiter) xs → StartsLeast (drop k xs ++ take k xs)
StartsLeast-turned xs k d lt least =
    let P : Wait → Type 0 = λ w. (get_or xs k d).waiter ≤ w.waiter in
    rw (drop_more xs k d lt) (All-append P (drop (k + 1) xs) (take k xs) (All-drop P (k + 1) xs least) (All-take P k xs least))

IsUncovered-turned : (all cycle : List Wait) (k : ℕ) → k < length cycle → IsUncovered all cycle → IsUncovered all (drop k cycle ++ take k cycle)
IsUncovered-turned all cycle k lt h = record {
  cycle_of = record {
    closed = IsCycle-turned cycle k lt h.cycle_of.closed;
    among = All-append (Contains all) (drop k cycle) (take k cycle) (All-drop (Contains all) k cycle h.cycle_of.among) (All-take (Contains all) k cycle h.cycle_of.among);
  };
  uncovered = omega (arith, ints, h.uncovered, sum_of-turned (λ w. w.allowance) cycle k, sum_of-turned (λ w. w.burden) cycle k);
}

-- an uncovered cycle from its least waiter on
pub IsReportable-turned : (all cycle : List Wait) (k : ℕ) (d : Wait) → k < length cycle → IsUncovered all cycle → WaitsOnce cycle →
    All (λ w. (get_or cycle k d).waiter ≤ w.waiter) cycle → IsReportable all (drop k cycle ++ take k cycle)
IsReportable-turned all cycle k d lt h once least = record {
  uncovered = IsUncovered-turned all cycle k lt h;
  once = λ a. omega (arith, once a, count_at-turned (λ w. w.waiter) a cycle k);
  least = StartsLeast-turned cycle k d lt least;
}
