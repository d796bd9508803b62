use Rattle.step_core.specs.Running.{Went}
use Rattle.step_core.proofs.scene_core.Core.put_each.Given as goal

abbrev pub invariant-loop-own : goal.invariant-loop-own
invariant-loop-own l = Went l.initial.self l.acted l.self
