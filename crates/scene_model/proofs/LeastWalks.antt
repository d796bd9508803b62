-- Where every cycle of some waits is covered, there are potentials with which all of them pass: of each application, how
-- little a walk along waits can cost that starts there.
use Rattle.std.proofs.Common.{◌≡◌, ℕ, zero, suc, ◌<◌, ◌≤◌, refl, sym, ◌∙◌, ap, subst, ◌⊎◌, inl, inr, arith, Bool, true, false, cond, List, [], ◌∷◌, ◌++◌, length, map, length-append, ℤ, pos, ◌+ℤ◌, ◌-ℤ◌, ◌*ℤ◌, neg_ℤ}
use Rattle.std.specs.Prelude.{◌<ℤ◌, ◌≤ℤ◌, int_lt, ◌==◌, All, Contains}
use Rattle.std.specs.List.{AllByRecursion}
use Rattle.std.specs.Int.{int_min}
use Rattle.std.proofs.lemmas.Bool.{cases_lt, eq-eqb, eqb-true}
use Rattle.std.proofs.lemmas.Int.{ints, clamps, by_lt_z}
use Rattle.std.proofs.lemmas.List.FromFn.{length-map-range_with_len, get_or-map-range_with_len}
use Rattle.std.proofs.lemmas.List.Elements.{All-nil, All-cons, All-head, All-tail, All-append, All-weaker, All-contains, All-contains_itself, Contains-append_right, recursion_from_All}
use Rattle.music_base.specs.Numbers.{below}
use Rattle.scene_model.specs.declared.wait.Wait.{Wait}
use Rattle.scene_model.specs.Cover.{IsWalk, AreAmong, sum_of, allowances, burdens, AllCovered, HasUncovered, potential, Passes}
use Rattle.scene_model.proofs.Walks.{scaled-add, scaled-sub, sum_of-append, IsWalk-append, cycle_from_walk}
use Rattle.scene_model.proofs.Cycles.{uncovered_from_excess, covered_or_not}
use Rattle.scene_model.proofs.Searching.{search_below}
use Rattle.scene_model.proofs.Rounds.{awaited_by, length-awaited_by, Differ, differ_few, GoesRound, round_or_differ}

-- a wait between two of n applications
abbrev pub IsBetween : ℕ → Wait → Type 0
IsBetween n w = (w.waiter < n) × (w.awaited < n)

-- ---- what walks cost

module _ (n : ℕ) where
  -- n times what the allowance exceeds the burden by, less one
  abbrev cost : Wait → ℤ
  cost w = pos n *ℤ (w.allowance -ℤ w.burden) -ℤ pos 1

  abbrev total : List Wait → ℤ
  total ws = sum_of cost ws

  scaled-cons : (w : Wait) (ws : List Wait) → pos n *ℤ (allowances (w ∷ ws) -ℤ burdens (w ∷ ws)) ≡ pos n *ℤ (w.allowance -ℤ w.burden) +ℤ pos n *ℤ (allowances ws -ℤ burdens ws)
  scaled-cons w ws =
      let e : allowances (w ∷ ws) -ℤ burdens (w ∷ ws) ≡ (w.allowance -ℤ w.burden) +ℤ (allowances ws -ℤ burdens ws) = omega (arith, ints) in
      rw e (scaled-add n (w.allowance -ℤ w.burden) (allowances ws -ℤ burdens ws))

  total-is : (ws : List Wait) → total ws ≡ pos n *ℤ (allowances ws -ℤ burdens ws) -ℤ pos (length ws)
  total-is [] = omega (arith, ints, scaled-sub n (pos 0) (pos 0))
  total-is (w ∷ ws) = omega (arith, ints, total-is ws, scaled-cons w ws)

  -- ---- one step of relaxing

  -- the least of z and of what it costs to go by a wait of v, before f of the awaited
  abbrev relaxed : (ℕ → ℤ) → List Wait → ℕ → ℤ → ℤ
  relaxed f [] v z = z
  relaxed f (w ∷ ws) v z = relaxed f ws v (cond (w.waiter == v) (int_min z (cost w +ℤ f w.awaited)) z)

  relaxed-le : (f : ℕ → ℤ) (ws : List Wait) (v : ℕ) (z : ℤ) → relaxed f ws v z ≤ℤ z
  relaxed-le f [] v z = omega (arith, ints)
  relaxed-le f (w ∷ ws) v z = go (w.waiter == v) (relaxed-le f ws v)
    where
      go : (b : Bool) → ((y : ℤ) → relaxed f ws v y ≤ℤ y) → relaxed f ws v (cond b (int_min z (cost w +ℤ f w.awaited)) z) ≤ℤ z
      go true rest = let r = rest (int_min z (cost w +ℤ f w.awaited)) in omega (arith, ints, clamps)
      go false rest = rest z

  -- no wait of v leads to less
  abbrev IsBelow : (ℕ → ℤ) → ℕ → ℤ → Wait → Type 0
  IsBelow f v z w = w.waiter ≡ v → z ≤ℤ (cost w +ℤ f w.awaited)

  relaxed-below : (f : ℕ → ℤ) (ws : List Wait) (v : ℕ) (z : ℤ) → All (IsBelow f v (relaxed f ws v z)) ws
  relaxed-below f [] v z = All-nil (IsBelow f v z)
  relaxed-below f (w ∷ ws) v z = All-cons (IsBelow f v (relaxed f (w ∷ ws) v z)) w ws (λ e. here (eq-eqb w.waiter v e)) (relaxed-below f ws v (cond (w.waiter == v) (int_min z (cost w +ℤ f w.awaited)) z))
    where
      here : (w.waiter == v) ≡ true → relaxed f ws v (cond (w.waiter == v) (int_min z (cost w +ℤ f w.awaited)) z) ≤ℤ (cost w +ℤ f w.awaited)
      here t = rw t (let r = relaxed-le f ws v (int_min z (cost w +ℤ f w.awaited)) in omega (arith, ints, clamps))

  -- y is z, or is reached by a wait of v
  abbrev IsReached : (ℕ → ℤ) → List Wait → ℕ → ℤ → ℤ → Type 0
  IsReached f ws v z y = (y ≡ z) ⊎ ((w : Wait) × Contains ws w × (w.waiter ≡ v) × (y ≡ cost w +ℤ f w.awaited))

  relaxed-reached : (f : ℕ → ℤ) (ws : List Wait) (v : ℕ) (z : ℤ) → IsReached f ws v z (relaxed f ws v z)
  relaxed-reached f [] v z = inl refl
  relaxed-reached f (w ∷ ws) v z = go (w.waiter == v) refl (relaxed-reached f ws v)
    where
      further : (x y : ℤ) → (y ≡ x → IsReached f (w ∷ ws) v z y) → IsReached f ws v x y → IsReached f (w ∷ ws) v z y
      further x y first (inl e) = first e
      further x y first (inr (u, among, is, costs)) = inr (u, Contains-append_right (w ∷ []) ws u among, is, costs)

      here : w.waiter ≡ v → (y : ℤ) → y ≡ int_min z (cost w +ℤ f w.awaited) → IsReached f (w ∷ ws) v z y
      here is y e = choose (int_lt (cost w +ℤ f w.awaited) z) refl
        where
          choose : (b : Bool) → int_lt (cost w +ℤ f w.awaited) z ≡ b → IsReached f (w ∷ ws) v z y
          choose true t = let m : int_min z (cost w +ℤ f w.awaited) ≡ cost w +ℤ f w.awaited = rw t refl in inr (w, (0, omega arith, refl), is, e ∙ m)
          choose false t = let m : int_min z (cost w +ℤ f w.awaited) ≡ z = rw t refl in inl (e ∙ m)

      go : (b : Bool) → (w.waiter == v) ≡ b → ((x : ℤ) → IsReached f ws v x (relaxed f ws v x)) → IsReached f (w ∷ ws) v z (relaxed f ws v (cond b (int_min z (cost w +ℤ f w.awaited)) z))
      go true t rest = let x = int_min z (cost w +ℤ f w.awaited) in further x (relaxed f ws v x) (here (eqb-true w.waiter v t) (relaxed f ws v x)) (rest x)
      go false t rest = further z (relaxed f ws v z) (λ e. inl e) (rest z)

  -- ---- the least costs

  module _ (all : List Wait) where
    -- the least that a walk of at most i waits from v costs
    abbrev least : ℕ → ℕ → ℤ
    least zero v = pos 0
    least (suc i) v = relaxed (least i) all v (least i v)

    least-falls : (i v : ℕ) → least (suc i) v ≤ℤ least i v
    least-falls i v = relaxed-le (least i) all v (least i v)

    least-not_above_zero : (i v : ℕ) → least i v ≤ℤ pos 0
    least-not_above_zero zero v = omega (arith, ints)
    least-not_above_zero (suc i) v = let a = least-not_above_zero i v in let b = least-falls i v in omega (arith, ints)

    least-step : (i : ℕ) (w : Wait) → Contains all w → least (suc i) w.waiter ≤ℤ (cost w +ℤ least i w.awaited)
    least-step i w among =
        All-contains (IsBelow (least i) w.waiter (least (suc i) w.waiter)) all w (relaxed-below (least i) all w.waiter (least i w.waiter)) among refl

    -- no walk of at most i waits costs less
    least-le : (i a b : ℕ) (ws : List Wait) → length ws ≤ i → IsWalk a ws b → AreAmong all ws → least i a ≤ℤ total ws
    least-le i a b [] few walk among = least-not_above_zero i a
    least-le zero a b (w ∷ ws) few walk among = absurd (omega arith)
    least-le (suc i) a b (w ∷ ws) few walk among =
        let rest = least-le i w.awaited b ws (omega arith) walk.1 (All-tail (Contains all) w ws among) in
        let s = least-step i w (All-head (Contains all) w ws among) in
        subst (λ x. least (suc i) x ≤ℤ (cost w +ℤ total ws)) walk.0 (omega (arith, ints))

    record Reaches (i v : ℕ) : Type 0 where
      walk : List Wait
      end : ℕ
      is_walk : IsWalk v walk end
      among : AreAmong all walk
      few : length walk ≤ i
      costs : total walk ≡ least i v

    -- and one costs so much
    least-reached : (i v : ℕ) → Reaches i v
    least-reached zero v = record { walk = []; end = v; is_walk = refl; among = All-nil (Contains all); few = omega arith; costs = refl }
    least-reached (suc i) v = go (relaxed-reached (least i) all v (least i v)) (least-reached i v) (least-reached i)
      where
        go : IsReached (least i) all v (least i v) (least (suc i) v) → Reaches i v → ((u : ℕ) → Reaches i u) → Reaches (suc i) v
        go (inl e) r rest = record { walk = r.walk; end = r.end; is_walk = r.is_walk; among = r.among; few = omega (arith, r.few); costs = r.costs ∙ sym e }
        go (inr (w, among, is, costs)) r rest =
            let t = rest w.awaited in
            record {
              walk = w ∷ t.walk;
              end = t.end;
              is_walk = (is, t.is_walk);
              among = All-cons (Contains all) w t.walk among t.among;
              few = omega (arith, t.few);
              costs = ap (λ z. cost w +ℤ z) t.costs ∙ sym costs;
            }

-- ---- potentials, or a cycle that is not covered

abbrev pub HasPotentials : ℕ → List Wait → Type 0
HasPotentials n all = (potentials : List ℤ) × (length potentials ≡ n) × All (Passes n potentials) all

pub All-split : {X : Type 0} (P : X → Type 0) (xs ys : List X) → All P (xs ++ ys) → All P xs × All P ys
All-split P [] ys all = (All-nil P, all)
All-split P (x ∷ xs) ys all = let rest = All-split P xs ys (All-tail P x (xs ++ ys) all) in (All-cons P x xs (All-head P x (xs ++ ys) all) rest.0, rest.1)

module _ (n : ℕ) (all : List Wait) (between : All (IsBetween n) all) where
  place : (w : Wait) → Contains all w → IsBetween n w
  place w among = All-contains (IsBetween n) all w between among

  awaited_below : (ws : List Wait) → AllByRecursion (Contains all) ws → AllByRecursion (λ x. x < n) (awaited_by ws)
  awaited_below [] among = tt
  awaited_below (w ∷ ws) among = ((place w among.0).1, awaited_below ws among.1)

  few_places : (ws : List Wait) → AreAmong all ws → AllByRecursion (λ x. x < n) (awaited_by ws)
  few_places ws among = awaited_below ws (recursion_from_All (Contains all) ws among)

  -- a least cost that still falls after n steps is that of a walk round a cycle, which costs less than nothing
  falling : (v : ℕ) → v < n → least n all (suc n) v <ℤ least n all n v → HasUncovered all
  falling v small falls = go (round_or_differ v r.end r.walk r.is_walk)
    where
      r : Reaches n all (suc n) v
      r = least-reached n all (suc n) v

      long : n < length r.walk
      long = by_length (cases_lt n (length r.walk))
        where
          by_length : (n < length r.walk) ⊎ (length r.walk ≤ n) → n < length r.walk
          by_length (inl lt) = lt
          by_length (inr few) = let b = least-le n all n v r.end r.walk few r.is_walk r.among in let c = r.costs in absurd (omega (arith, ints))

      go : GoesRound v r.walk r.end ⊎ Differ (v ∷ awaited_by r.walk) → HasUncovered all
      go (inr differ) = absurd (omega (arith, differ_few (v ∷ awaited_by r.walk) n differ (small, few_places r.walk r.among), length-awaited_by r.walk, long))
      go (inl round) = (round.cycle, record { cycle_of = record { closed = cycle_from_walk round.meet round.cycle round.some round.around; among = cycle_among }; uncovered = uncovered_from_excess n round.cycle few (omega (arith, ints, cheap, total-is n round.cycle)) })
        where
          parts : AreAmong all round.front × AreAmong all (round.cycle ++ round.back)
          parts = All-split (Contains all) round.front (round.cycle ++ round.back) (subst (AreAmong all) round.whole r.among)

          cycle_among : AreAmong all round.cycle
          cycle_among = (All-split (Contains all) round.cycle round.back parts.1).0

          back_among : AreAmong all round.back
          back_among = (All-split (Contains all) round.cycle round.back parts.1).1

          few : length round.cycle ≤ n
          few = omega (arith, differ_few (awaited_by round.cycle) n round.differ (few_places round.cycle cycle_among), length-awaited_by round.cycle)

          -- the walk without the cycle
          shorter : least n all n v ≤ℤ total n (round.front ++ round.back)
          shorter = least-le n all n v r.end (round.front ++ round.back)
              (omega (arith, length-append round.front round.back, length-append round.front (round.cycle ++ round.back), length-append round.cycle round.back, ap length round.whole, r.few, round.some))
              (IsWalk-append v round.front round.meet round.back r.end round.to_meet round.onward)
              (All-append (Contains all) round.front round.back parts.0 back_among)

          cheap : total n round.cycle <ℤ pos 0
          cheap =
              let s = shorter in
              let c = r.costs in
              let whole : total n r.walk ≡ total n (round.front ++ (round.cycle ++ round.back)) = ap (total n) round.whole in
              let outer = sum_of-append (cost n) round.front (round.cycle ++ round.back) in
              let inner = sum_of-append (cost n) round.cycle round.back in
              let cut = sum_of-append (cost n) round.front round.back in
              omega (arith, ints)

  -- least costs that no longer fall are potentials
  settled : ((v : ℕ) → v < n → least n all n v ≤ℤ least n all (suc n) v) → HasPotentials n all
  settled still = (map (λ v. neg_ℤ (least n all n v)) (below n), length-map-range_with_len (λ v. neg_ℤ (least n all n v)) 0 n, All-weaker (Contains all) (Passes n (map (λ v. neg_ℤ (least n all n v)) (below n))) each all (All-contains_itself all))
    where
      at : (v : ℕ) → v < n → potential (map (λ v. neg_ℤ (least n all n v)) (below n)) v ≡ neg_ℤ (least n all n v)
      at v lt = get_or-map-range_with_len (λ v. neg_ℤ (least n all n v)) 0 n v v (pos 0) lt (omega arith)

      each : (w : Wait) → Contains all w → Passes n (map (λ v. neg_ℤ (least n all n v)) (below n)) w
      each w among =
          let p = place w among in
          let a = at w.waiter p.0 in
          let b = at w.awaited p.1 in
          let s = still w.waiter p.0 in
          let t = least-step n all n w among in
          omega (arith, ints)

  pub potentials_or_uncovered : HasPotentials n all ⊎ HasUncovered all
  potentials_or_uncovered = go (search_below n (λ v. least n all (suc n) v <ℤ least n all n v) (λ v. least n all n v ≤ℤ least n all (suc n) v) (λ v lt. by_lt_z (least n all (suc n) v) (least n all n v) inl inr))
    where
      go : ((v : ℕ) × (v < n) × (least n all (suc n) v <ℤ least n all n v)) ⊎ ((v : ℕ) → v < n → least n all n v ≤ℤ least n all (suc n) v) → HasPotentials n all ⊎ HasUncovered all
      go (inl (v, lt, falls)) = inr (falling v lt falls)
      go (inr still) = inl (settled still)

  pub covered_have_potentials : AllCovered all → HasPotentials n all
  covered_have_potentials covered = go potentials_or_uncovered
    where
      go : HasPotentials n all ⊎ HasUncovered all → HasPotentials n all
      go (inl found) = found
      go (inr uncovered) = absurd (covered_or_not all covered uncovered)
