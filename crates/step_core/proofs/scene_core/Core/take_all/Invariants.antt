use Rattle.step_core.specs.Running.{Went}
use Rattle.step_core.proofs.scene_core.Core.take_all.Given as goal

abbrev pub invariant-loop : goal.invariant-loop
invariant-loop l = Went l.initial.self l.acted l.self
