-- A walk along waits goes round a cycle, or comes to no application twice.
use Rattle.std.proofs.Common.{◌≡◌, ℕ, suc, ◌<◌, ◌≤◌, refl, sym, ◌∙◌, ap, subst, ◌⊎◌, inl, inr, arith, true, false, eqb, List, [], ◌∷◌, ◌++◌, length}
use Rattle.std.specs.List.{AllByRecursion, IsDistinct, list_any}
use Rattle.std.proofs.lemmas.Bool.{cases_eq, ne_eqb, eqb-true, or_cases}
use Rattle.std.proofs.lemmas.Map.Steps.{length-le_from_distinct_below}
use Rattle.scene_model.specs.declared.wait.Wait.{Wait}
use Rattle.scene_model.specs.Cover.{IsWalk}

-- the applications that a walk comes to, after its first
abbrev pub awaited_by : List Wait → List ℕ
awaited_by [] = []
awaited_by (w ∷ ws) = w.awaited ∷ awaited_by ws

pub length-awaited_by : (ws : List Wait) → length (awaited_by ws) ≡ length ws
length-awaited_by [] = refl
length-awaited_by (w ∷ ws) = ap suc (length-awaited_by ws)

-- ---- numbers that differ

-- no number stands twice
abbrev pub Differ : List ℕ → Type 0
Differ [] = Unit {0}
Differ (x ∷ xs) = AllByRecursion (λ y. y ≡ x → ⊥) xs × Differ xs

All-front : (P : ℕ → Type 0) (xs ys : List Wait) → AllByRecursion P (awaited_by (xs ++ ys)) → AllByRecursion P (awaited_by xs)
All-front P [] ys all = tt
All-front P (w ∷ xs) ys all = (all.0, All-front P xs ys all.1)

Differ-front : (xs ys : List Wait) → Differ (awaited_by (xs ++ ys)) → Differ (awaited_by xs)
Differ-front [] ys differ = tt
Differ-front (w ∷ xs) ys differ = (All-front (λ y. y ≡ w.awaited → ⊥) xs ys differ.0, Differ-front xs ys differ.1)

tests_differ : (x : ℕ) (xs : List ℕ) → AllByRecursion (λ y. y ≡ x → ⊥) xs → AllByRecursion (λ y. eqb x y ≡ false) xs
tests_differ x [] all = tt
tests_differ x (y ∷ xs) all = (ne_eqb x y (λ e. all.0 (sym e)), tests_differ x xs all.1)

distinct : (xs : List ℕ) → Differ xs → IsDistinct eqb xs
unfolding IsDistinct
distinct [] differ = tt
distinct (x ∷ xs) differ = (tests_differ x xs differ.0, distinct xs differ.1)

below_from_any : (xs : List ℕ) (n : ℕ) → AllByRecursion (λ x. x < n) xs → (q : ℕ) → list_any (eqb q) xs ≡ true → q < n
below_from_any [] n all q any = absurd (cc)
below_from_any (x ∷ xs) n all q any = go (or_cases (eqb q x) (list_any (eqb q) xs) any) (below_from_any xs n all.1 q)
  where
    go : (eqb q x ≡ true) ⊎ (list_any (eqb q) xs ≡ true) → (list_any (eqb q) xs ≡ true → q < n) → q < n
    go (inl here) rest = omega (arith, eqb-true q x here, all.0)
    go (inr later) rest = rest later

-- numbers below n that differ are at most n
pub differ_few : (xs : List ℕ) (n : ℕ) → Differ xs → AllByRecursion (λ x. x < n) xs → length xs ≤ n
differ_few xs n differ all = length-le_from_distinct_below xs n (distinct xs differ) (below_from_any xs n all)

-- ---- walks

-- a walk from x to b comes to a
record ComesTo (x : ℕ) (ws : List Wait) (b a : ℕ) : Type 0 where
  front : List Wait
  back : List Wait
  whole : ws ≡ front ++ back
  there : IsWalk x front a
  onward : IsWalk a back b

comes_to : (a x b : ℕ) (ws : List Wait) → IsWalk x ws b → ComesTo x ws b a ⊎ AllByRecursion (λ y. y ≡ a → ⊥) (x ∷ awaited_by ws)
comes_to a x b [] walk = go (cases_eq x a)
  where
    go : (x ≡ a) ⊎ (x ≡ a → ⊥) → ComesTo x [] b a ⊎ AllByRecursion (λ y. y ≡ a → ⊥) (x ∷ [])
    go (inl e) = inl (record { front = []; back = []; whole = refl; there = e; onward = sym e ∙ walk })
    go (inr ne) = inr (ne, tt)
comes_to a x b (w ∷ ws) walk = go (cases_eq x a) (comes_to a w.awaited b ws walk.1)
  where
    go : (x ≡ a) ⊎ (x ≡ a → ⊥) → ComesTo w.awaited ws b a ⊎ AllByRecursion (λ y. y ≡ a → ⊥) (w.awaited ∷ awaited_by ws) → ComesTo x (w ∷ ws) b a ⊎ AllByRecursion (λ y. y ≡ a → ⊥) (x ∷ awaited_by (w ∷ ws))
    go (inl e) rest = inl (record { front = []; back = w ∷ ws; whole = refl; there = e; onward = (walk.0 ∙ e, walk.1) })
    go (inr ne) (inr none) = inr (ne, none)
    go (inr ne) (inl c) = inl (record { front = w ∷ c.front; back = c.back; whole = ap (λ zs. w ∷ zs) c.whole; there = (walk.0, c.there); onward = c.onward })

-- a walk with a cycle in it, which comes to no application twice
pub record GoesRound (a : ℕ) (ws : List Wait) (b : ℕ) : Type 0 where
  pub front : List Wait
  pub cycle : List Wait
  pub back : List Wait
  pub meet : ℕ
  pub whole : ws ≡ front ++ (cycle ++ back)
  pub to_meet : IsWalk a front meet
  pub around : IsWalk meet cycle meet
  pub onward : IsWalk meet back b
  pub some : 0 < length cycle
  pub differ : Differ (awaited_by cycle)

pub round_or_differ : (a b : ℕ) (ws : List Wait) → IsWalk a ws b → GoesRound a ws b ⊎ Differ (a ∷ awaited_by ws)
round_or_differ a b [] walk = inr (tt, tt)
round_or_differ a b (w ∷ ws) walk = go (round_or_differ w.awaited b ws walk.1)
  where
    close : Differ (w.awaited ∷ awaited_by ws) → ComesTo w.awaited ws b a ⊎ AllByRecursion (λ y. y ≡ a → ⊥) (w.awaited ∷ awaited_by ws) → GoesRound a (w ∷ ws) b ⊎ Differ (a ∷ awaited_by (w ∷ ws))
    close differ (inr none) = inr (none, differ)
    close differ (inl c) = inl (record {
      front = [];
      cycle = w ∷ c.front;
      back = c.back;
      meet = a;
      whole = ap (λ zs. w ∷ zs) c.whole;
      to_meet = refl;
      around = (walk.0, c.there);
      onward = c.onward;
      some = omega arith;
      differ = Differ-front (w ∷ c.front) c.back (subst (λ zs. Differ (w.awaited ∷ awaited_by zs)) c.whole differ);
    })

    go : GoesRound w.awaited ws b ⊎ Differ (w.awaited ∷ awaited_by ws) → GoesRound a (w ∷ ws) b ⊎ Differ (a ∷ awaited_by (w ∷ ws))
    go (inl r) = inl (record { front = w ∷ r.front; cycle = r.cycle; back = r.back; meet = r.meet; whole = ap (λ zs. w ∷ zs) r.whole; to_meet = (walk.0, r.to_meet); around = r.around; onward = r.onward; some = r.some; differ = r.differ })
    go (inr differ) = close differ (comes_to a w.awaited b ws walk.1)
