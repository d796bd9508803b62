-- Where some waits have a cycle that is not covered, they have one that can be reported: no application waits twice in it, and
-- its first waiter has the least place.
use Rattle.std.proofs.Common.{◌≡◌, ℕ, suc, zero, ◌<◌, ◌≤◌, ◌⊎◌, inl, inr, refl, ap, subst, eqb, arith, List, [], ◌∷◌, ◌++◌, length, length-append, take, drop, get_or, ℤ, ◌+ℤ◌, ◌≤ℤ◌, ◌<ℤ◌}
use Rattle.std.specs.Prelude.{All, Contains}
use Rattle.std.specs.List.{AllByRecursion}
use Rattle.std.proofs.lemmas.Bool.{cases_eq, cases_lt, ne_eqb}
use Rattle.std.proofs.lemmas.Bool.Decides.{nat_tests}
use Rattle.std.proofs.lemmas.Int.{ints, by_lt_z}
use Rattle.std.proofs.lemmas.List.Elements.{All-append, All-cons, All-nil, All-weaker}
use Rattle.scene_model.specs.declared.wait.Wait.{Wait}
use Rattle.scene_model.specs.Cover.{IsWalk, IsCycle, AreAmong, sum_of, allowances, burdens, IsUncovered, HasUncovered, WaitsOnce, IsReportable}
use Rattle.scene_model.proofs.Walks.{IsWalk-append, count_at, count_at-cons, cycle_from_walk, left-come, one_if, sum_of-append, walk_from_cycle}
use Rattle.scene_model.proofs.Cycles.{IsReportable-turned}
use Rattle.scene_model.proofs.LeastWalks.{All-split}
use Rattle.scene_model.proofs.Rounds.{Differ, GoesRound, awaited_by, round_or_differ}

-- ---- no application waits twice

-- how often a walk comes to an application
abbrev comes_to : ℕ → List Wait → ℕ
comes_to a ws = count_at (λ w. w.awaited) a ws

comes_to-none : (a : ℕ) (ws : List Wait) → AllByRecursion (λ y. y ≡ a → ⊥) (awaited_by ws) → comes_to a ws ≡ 0
comes_to-none a [] none = refl
comes_to-none a (w ∷ ws) none =
    omega (arith, count_at-cons (λ w. w.awaited) a w ws, ap one_if (ne_eqb w.awaited a none.0), comes_to-none a ws none.1)

one_if-most : (x a : ℕ) → one_if (eqb x a) ≤ 1
one_if-most x a = grind (arith, nat_tests)

comes_to-once : (a : ℕ) (ws : List Wait) → Differ (awaited_by ws) → comes_to a ws ≤ 1
comes_to-once a [] differ = omega arith
comes_to-once a (w ∷ ws) differ = go (cases_eq w.awaited a) (comes_to-once a ws differ.1)
  where
    go : (w.awaited ≡ a) ⊎ (w.awaited ≡ a → ⊥) → comes_to a ws ≤ 1 → comes_to a (w ∷ ws) ≤ 1
    go (inl e) rest =
        let none = comes_to-none a ws (subst (λ z. AllByRecursion (λ y. y ≡ z → ⊥) (awaited_by ws)) e differ.0) in
        omega (arith, count_at-cons (λ w. w.awaited) a w ws, none, one_if-most w.awaited a)
    go (inr ne) rest = omega (arith, count_at-cons (λ w. w.awaited) a w ws, ap one_if (ne_eqb w.awaited a ne), rest)

-- a closed walk that comes to no application twice leaves none twice
differ_once : (a : ℕ) (ws : List Wait) → IsWalk a ws a → Differ (awaited_by ws) → WaitsOnce ws
differ_once a ws walk differ = λ x. omega (arith, left-come x a ws a walk, comes_to-once x ws differ)

-- ---- an uncovered cycle in which no application waits twice

abbrev HasUncoveredOnce : List Wait → Type 0
HasUncoveredOnce all = (cycle : List Wait) × IsUncovered all cycle × WaitsOnce cycle

-- a walk back to its start whose allowances do not exceed its burdens
record IsUncoveredWalk (all : List Wait) (a : ℕ) (ws : List Wait) : Type 0 where
  some : 0 < length ws
  walk : IsWalk a ws a
  among : AreAmong all ws
  uncovered : allowances ws ≤ℤ burdens ws

-- where it comes to no application twice, it is the cycle
once_found : (all : List Wait) (a : ℕ) (ws : List Wait) → IsUncoveredWalk all a ws → Differ (awaited_by ws) → HasUncoveredOnce all
once_found all a ws is differ =
    (ws, record { cycle_of = record { closed = cycle_from_walk a ws is.some is.walk; among = is.among }; uncovered = is.uncovered }, differ_once a ws is.walk differ)

-- sums of no waits are equal
some_waits : (ws : List Wait) → allowances ws <ℤ burdens ws → 0 < length ws
some_waits [] less = absurd (omega (arith, ints, less))
some_waits (w ∷ ws) less = omega arith

module _ (all : List Wait) (a : ℕ) (ws : List Wait) (is : IsUncoveredWalk all a ws) (round : GoesRound a ws a) where
  parts : AreAmong all round.front × AreAmong all (round.cycle ++ round.back)
  parts = All-split (Contains all) round.front (round.cycle ++ round.back) (subst (AreAmong all) round.whole is.among)

  inner : AreAmong all round.cycle × AreAmong all round.back
  inner = All-split (Contains all) round.cycle round.back parts.1

  sums : (f : Wait → ℤ) → sum_of f ws ≡ sum_of f round.cycle +ℤ sum_of f (round.front ++ round.back)
  sums f =
      let whole : sum_of f ws ≡ sum_of f (round.front ++ (round.cycle ++ round.back)) = ap (sum_of f) round.whole in
      omega (arith, ints, whole, sum_of-append f round.front (round.cycle ++ round.back), sum_of-append f round.cycle round.back, sum_of-append f round.front round.back)

  -- the cycle in it
  the_cycle : allowances round.cycle ≤ℤ burdens round.cycle → HasUncoveredOnce all
  the_cycle low = once_found all round.meet round.cycle (record { some = round.some; walk = round.around; among = inner.0; uncovered = low }) round.differ

  -- where the cycle in it is covered, the rest is not
  the_rest : burdens round.cycle <ℤ allowances round.cycle → IsUncoveredWalk all a (round.front ++ round.back)
  the_rest high = record {
    some = some_waits (round.front ++ round.back) less;
    walk = IsWalk-append a round.front round.meet round.back a round.to_meet round.onward;
    among = All-append (Contains all) round.front round.back parts.0 inner.1;
    uncovered = omega (arith, ints, less);
  }
    where
      less : allowances (round.front ++ round.back) <ℤ burdens (round.front ++ round.back)
      less = omega (arith, ints, is.uncovered, high, sums (λ (w : Wait). w.allowance), sums (λ (w : Wait). w.burden))

  shorter : length (round.front ++ round.back) < length ws
  shorter = omega (arith, length-append round.front round.back, length-append round.front (round.cycle ++ round.back), length-append round.cycle round.back, ap length round.whole, round.some)

-- the cycle in it, or one in the rest
uncovered_once : (n : ℕ) (all : List Wait) (a : ℕ) (ws : List Wait) → length ws ≤ n → IsUncoveredWalk all a ws → HasUncoveredOnce all
uncovered_once zero all a ws few is = absurd (omega (arith, few, is.some))
uncovered_once (suc n) all a ws few is = go (round_or_differ a a ws is.walk) (uncovered_once n all a)
  where
    go : GoesRound a ws a ⊎ Differ (a ∷ awaited_by ws) → ((vs : List Wait) → length vs ≤ n → IsUncoveredWalk all a vs → HasUncoveredOnce all) → HasUncoveredOnce all
    go (inr differ) rest = once_found all a ws is differ.1
    go (inl round) rest =
        by_lt_z
        (burdens round.cycle)
        (allowances round.cycle)
        (λ high. rest (round.front ++ round.back) (omega (arith, few, shorter all a ws is round)) (the_rest all a ws is round high))
        (λ low. the_cycle all a ws is round low)

some_in : (cycle : List Wait) → IsCycle cycle → 0 < length cycle
some_in [] closed = absurd closed
some_in (w ∷ ws) closed = omega arith

has_uncovered_once : (all : List Wait) → HasUncovered all → HasUncoveredOnce all
has_uncovered_once all (cycle, is) =
    let round = walk_from_cycle cycle is.cycle_of.closed in
    uncovered_once (length cycle) all round.0 cycle (omega arith) (record { some = some_in cycle is.cycle_of.closed; walk = round.1; among = is.cycle_of.among; uncovered = is.uncovered })

-- ---- the least waiter

abbrev LeastFrom : Wait → List Wait → ℕ → Type 0
LeastFrom d ws k = (k < length ws) × All (λ w. (get_or ws k d).waiter ≤ w.waiter) ws

least_place : (d w : Wait) (ws : List Wait) → (k : ℕ) × LeastFrom d (w ∷ ws) k
least_place d w [] = (0, (omega arith, All-cons (λ v. w.waiter ≤ v.waiter) w [] (omega arith) (All-nil (λ v. w.waiter ≤ v.waiter))))
least_place d w (v ∷ vs) = go (least_place d v vs)
  where
    go : (k : ℕ) × LeastFrom d (v ∷ vs) k → (k : ℕ) × LeastFrom d (w ∷ v ∷ vs) k
    go (k, (lt, least)) = choose (cases_lt (get_or (v ∷ vs) k d).waiter w.waiter)
      where
        choose : ((get_or (v ∷ vs) k d).waiter < w.waiter) ⊎ (w.waiter ≤ (get_or (v ∷ vs) k d).waiter) → (j : ℕ) × LeastFrom d (w ∷ v ∷ vs) j
        choose (inl less) = (suc k, (omega (arith, lt), All-cons (λ u. (get_or (v ∷ vs) k d).waiter ≤ u.waiter) w (v ∷ vs) (omega (arith, less)) least))
        choose (inr le) = (0, (omega arith, All-cons (λ u. w.waiter ≤ u.waiter) w (v ∷ vs) (omega arith) (All-weaker (λ u. (get_or (v ∷ vs) k d).waiter ≤ u.waiter) (λ u. w.waiter ≤ u.waiter) (λ u h. omega (arith, h, le)) (v ∷ vs) least)))

-- ---- the cycle that is reported

abbrev pub HasReportable : List Wait → Type 0
HasReportable all = (cycle : List Wait) × IsReportable all cycle

reportable_from_once : (all : List Wait) → HasUncoveredOnce all → HasReportable all
reportable_from_once all ([], is, once) = absurd is.cycle_of.closed
reportable_from_once all (w ∷ ws, is, once) =
    let place = least_place w w ws in
    (drop place.0 (w ∷ ws) ++ take place.0 (w ∷ ws), IsReportable-turned all (w ∷ ws) place.0 w place.1.0 is once place.1.1)

pub uncovered_has_reportable : (all : List Wait) → HasUncovered all → HasReportable all
uncovered_has_reportable all has = reportable_from_once all (has_uncovered_once all has)
