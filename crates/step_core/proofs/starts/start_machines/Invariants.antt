use Rattle.std.proofs.Common.{◌≡◌, ◌<◌, ℕ, length}
use Rattle.std.specs.Arc.{arc_value}
use Rattle.app_turn.specs.Moves.{IsStarted}
use Rattle.step_core.specs.Cores.{machine_at}
use Rattle.step_core.proofs.starts.start_machines.Given as goal

abbrev pub invariant-loop-app : goal.invariant-loop-app
invariant-loop-app l = (length l.machines.items ≡ l.app) × ((a : ℕ) → a < l.app → IsStarted (arc_value l.scene) a (machine_at l.machines.items a))
