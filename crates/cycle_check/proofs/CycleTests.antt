-- Walks and cycles, as tests find them.
use Rattle.std.proofs.Common.{◌≡◌, ◌≢◌, ◌↔◌, ℕ, ◌+◌, ◌<◌, List, [], ◌∷◌, ◌++◌, length, take, drop, get_or, false, true, refl, sym, ap, ◌∙◌, subst, arith, eqb, IsTrue}
use Rattle.std.specs.Prelude.{not}
use Rattle.std.proofs.lemmas.Bool.Decides.{nat_tests}
use Rattle.std.proofs.lemmas.List.{take-append-drop, drop_more, take_more}
use Rattle.scene_model.specs.Cover.{IsCycle, IsWalk}
use Rattle.scene_model.specs.declared.wait.Wait.{Wait}
use Rattle.scene_model.proofs.Walks.{IsWalk-append, IsWalk-back, end_of, end_of-walk}

-- ---- walks

-- one wait more, from where the walk ends
pub IsWalk-more : (ws : List Wait) (i : ℕ) (w : Wait) (a b : ℕ) → i < length ws → w ≡ get_or ws i w → IsWalk a (take i ws) b → w.waiter ≡ b → IsWalk a (take (i + 1) ws) w.awaited
IsWalk-more ws i w a b lt is walk on = rw (take_more ws i w lt, ← is) (IsWalk-append a (take i ws) b (w ∷ []) w.awaited walk (on, refl))

-- no walk goes on where the next wait's waiter is another
pub no_walk : (ws : List Wait) (i : ℕ) (w : Wait) (a b : ℕ) → i < length ws → w ≡ get_or ws i w → IsWalk a (take i ws) b → w.waiter ≢ b → (end : ℕ) → IsWalk a ws end → ⊥
no_walk ws i w a b lt is walk off end whole =
    let P : List Wait → Type 0 = λ xs. IsWalk a xs end in
    let parts : IsWalk a (take i ws ++ drop i ws) end = subst P (sym (take-append-drop i ws)) whole in
    let rest : IsWalk (end_of a (take i ws)) (drop i ws) end = IsWalk-back a (take i ws) (drop i ws) end parts in
    let next : IsWalk (end_of a (take i ws)) (get_or ws i w ∷ drop (i + 1) ws) end = rw (drop_more ws i w lt) at rest in
    off (ap (λ (v : Wait). v.waiter) is ∙ next.0 ∙ end_of-walk a (take i ws) b walk)

-- ---- cycles

-- a walk from its first waiter is a cycle exactly where it ends there
cycle_iff : (ws : List Wait) (a b : ℕ) → 0 < length ws → IsWalk a ws b → (b ≡ a) ↔ IsCycle ws
cycle_iff [] a b some walk = absurd (omega arith)
cycle_iff (w ∷ ws) a b some walk =
    let P : ℕ → Type 0 = λ end. IsWalk w.awaited ws end in (
      λ e. subst P (e ∙ sym walk.0) walk.1,
      λ closed. sym (end_of-walk w.awaited ws b walk.1) ∙ end_of-walk w.awaited ws w.waiter closed ∙ walk.0,
    )

pub no_cycle : (ws : List Wait) (w : Wait) → w ≡ get_or ws 0 w → ((end : ℕ) → IsWalk w.waiter ws end → ⊥) → IsCycle ws → ⊥
no_cycle [] w is none closed = closed
no_cycle (v ∷ ws) w is none closed = none v.waiter (ap (λ (x : Wait). x.waiter) (sym is), closed)

-- ---- tests

eq_from_test : (x y : ℕ) → IsTrue (eqb x y) → x ≡ y
eq_from_test x y passed = grind (arith, nat_tests)

test_from_eq : (x y : ℕ) → x ≡ y → IsTrue (eqb x y)
test_from_eq x y e = grind (arith, nat_tests)

pub ne_from_test : (x y : ℕ) → true ≡ not (eqb x y) → x ≢ y
ne_from_test x y passed = grind (arith, nat_tests)

pub eq_from_failed : (x y : ℕ) → false ≡ not (eqb x y) → x ≡ y
eq_from_failed x y failed = grind (arith, nat_tests)

-- whether a walk from its first waiter is a cycle, by the test of its end
pub closes_iff : (ws : List Wait) (a b : ℕ) → 0 < length ws → IsWalk a ws b → IsTrue (eqb b a) ↔ IsCycle ws
closes_iff ws a b some walk =
    let iff = cycle_iff ws a b some walk in
    (λ passed. iff.0 (eq_from_test b a passed), λ closed. test_from_eq b a (iff.1 closed))
