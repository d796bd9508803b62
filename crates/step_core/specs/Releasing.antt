-- Up to which clock rows can be released, and of how many steps.
use Rattle.std.specs.Prelude.{ℕ, ◌<◌, ◌≤◌, ◌≡◌, ◌⊎◌, nat_lt, List, length}
use Rattle.music_base.specs.Numbers.{count_below}
use Rattle.scene_model.specs.Clocks.{clock, steps}
use Rattle.scene_model.specs.Orders.{Counts, run_by}
use Rattle.scene_model.specs.declared.scene.Scene.{Scene}
use Rattle.app_turn.specs.Machines.{Machine}
use Rattle.step_core.specs.Cores.{IsPast, machine_at}

-- a step of the machine is left, and the clock of its next step
abbrev pub HasStep : Machine → Type 0
HasStep m = m.ran < steps m.scene m.app

abbrev pub clock_of : Machine → ℕ
clock_of m = clock m.scene m.app m.ran

-- the machine at this place has a step left of this clock
pub record IsStepAt (machines : List Machine) (place now : ℕ) : Type 0 where
  pub within : place < length machines
  pub left : HasStep (machine_at machines place)
  pub has_clock : clock_of (machine_at machines place) ≡ now

-- the least clock of a step that is left, or `never` where none is
pub record IsNextClock (machines : List Machine) (never least : ℕ) : Type 0 where
  pub lowest : (a : ℕ) → a < length machines → HasStep (machine_at machines a) → least ≤ clock_of (machine_at machines a)
  pub reached : (least ≡ never) ⊎ ((a : ℕ) × IsStepAt machines a least)

-- no step that is left has a clock below this one, and each step that was run and is past has
pub record IsLeast (scene : Scene) (s : Counts) (least : ℕ) : Type 0 where
  pub none_left : (b : ℕ) → b < length scene.apps → run_by s b < steps scene b → least ≤ clock scene b (run_by s b)
  pub above_past : (a k : ℕ) → a < length scene.apps → k < run_by s a → IsPast scene s a k → clock scene a k < least

-- how many steps of an application have a clock below this one
unfoldable pub steps_before : Scene → ℕ → ℕ → ℕ
steps_before scene least a = count_below (steps scene a) (λ k. nat_lt (clock scene a k) least)
