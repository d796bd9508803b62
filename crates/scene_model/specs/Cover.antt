-- Cycles of waits, when they are covered, and the test of potentials.
use Rattle.std.specs.Prelude.{◌≡◌, ◌≤◌, ◌<◌, ◌*◌, ◌^◌, ◌==◌, ℕ, ℤ, pos, ◌+ℤ◌, ◌-ℤ◌, ◌*ℤ◌, ◌≤ℤ◌, ◌<ℤ◌, List, [], ◌∷◌, count_by, All, Contains, slice_index_or}
use Rattle.scene_model.specs.declared.wait.Wait.{Wait}

-- ---- cycles

-- the waits lead from application a to application b: each awaited application is the next wait's waiter
abbrev pub IsWalk : ℕ → List Wait → ℕ → Type 0
IsWalk a [] b = a ≡ b
IsWalk a (w ∷ ws) b = (w.waiter ≡ a) × IsWalk w.awaited ws b

-- a cycle is not empty, and leads from its first waiter back to it
abbrev pub IsCycle : List Wait → Type 0
IsCycle [] = ⊥
IsCycle (w ∷ ws) = IsWalk w.awaited ws w.waiter

-- each of these waits is one of all
abbrev pub AreAmong : List Wait → List Wait → Type 0
AreAmong all ws = All (Contains all) ws

-- a cycle of waits that are among all
pub record IsCycleOf (all cycle : List Wait) : Type 0 where
  pub closed : IsCycle cycle
  pub among : AreAmong all cycle

-- ---- cover

abbrev pub sum_of : (Wait → ℤ) → List Wait → ℤ
sum_of f [] = pos 0
sum_of f (w ∷ ws) = f w +ℤ sum_of f ws

abbrev pub allowances : List Wait → ℤ
allowances ws = sum_of (λ (w : Wait). w.allowance) ws

abbrev pub burdens : List Wait → ℤ
burdens ws = sum_of (λ (w : Wait). w.burden) ws

-- a cycle is covered where its allowances make up for its burdens, and more
pub record IsCovered (cycle : List Wait) : Type 0 where
  pub covered : burdens cycle <ℤ allowances cycle

-- every cycle of these waits is covered
abbrev pub AllCovered : List Wait → Type 0
AllCovered all = (cycle : List Wait) → IsCycleOf all cycle → IsCovered cycle

-- a cycle of these waits that is not covered
pub record IsUncovered (all cycle : List Wait) : Type 0 where
  pub cycle_of : IsCycleOf all cycle
  pub uncovered : allowances cycle ≤ℤ burdens cycle

-- there is one
abbrev pub HasUncovered : List Wait → Type 0
HasUncovered all = (cycle : List Wait) × IsUncovered all cycle

-- ---- the cycle that is reported

-- how many of the waits have this waiter
abbrev pub waits_by : ℕ → List Wait → ℕ
waits_by a ws = count_by (λ (w : Wait). w.waiter == a) ws

-- no application waits twice
abbrev pub WaitsOnce : List Wait → Type 0
WaitsOnce ws = (a : ℕ) → waits_by a ws ≤ 1

-- the first waiter has the least place of all waiters
abbrev pub StartsLeast : List Wait → Type 0
StartsLeast [] = ⊥
StartsLeast (w ∷ ws) = All (λ (v : Wait). w.waiter ≤ v.waiter) ws

-- a cycle by which waits can be refused: it is not covered, no application waits twice in it, and its first waiter has the
-- least place
pub record IsReportable (all cycle : List Wait) : Type 0 where
  pub uncovered : IsUncovered all cycle
  pub once : WaitsOnce cycle
  pub least : StartsLeast cycle

-- ---- potentials

-- the potential of an application
abbrev pub potential : List ℤ → ℕ → ℤ
potential potentials a = slice_index_or potentials a (pos 0)

-- with n applications, the wait passes the test of potentials
abbrev pub Passes : ℕ → List ℤ → Wait → Type 0
Passes n potentials w = pos 0 ≤ℤ (pos n *ℤ (w.allowance -ℤ w.burden) -ℤ pos 1 +ℤ potential potentials w.waiter -ℤ potential potentials w.awaited)

-- ---- bounds

-- no allowance and no burden lies farther from zero
abbrev pub greatest_number : ℕ
greatest_number = 10 ^ 30

-- no allowance falls farther short of its burden
abbrev pub greatest_shortfall : ℕ
greatest_shortfall = 3 * 10 ^ 15

-- the wait is between two of n applications, and its numbers are within the bounds
pub record IsWithin (n : ℕ) (w : Wait) : Type 0 where
  pub waiter : w.waiter < n
  pub awaited : w.awaited < n
  pub allowance_low : pos 0 ≤ℤ (w.allowance +ℤ pos greatest_number)
  pub allowance_high : w.allowance ≤ℤ pos greatest_number
  pub burden_low : pos 0 ≤ℤ (w.burden +ℤ pos greatest_number)
  pub burden_high : w.burden ≤ℤ pos greatest_number
  pub shortfall : w.burden ≤ℤ (w.allowance +ℤ pos greatest_shortfall)

-- how many waits a list may have whose sums are made
abbrev pub most_waits : ℕ
most_waits = 64

-- the numbers of a wait alone
pub record IsBounded (w : Wait) : Type 0 where
  pub allowance_low : pos 0 ≤ℤ (w.allowance +ℤ pos greatest_number)
  pub allowance_high : w.allowance ≤ℤ pos greatest_number
  pub burden_low : pos 0 ≤ℤ (w.burden +ℤ pos greatest_number)
  pub burden_high : w.burden ≤ℤ pos greatest_number
