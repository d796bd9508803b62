use Rattle.std.proofs.Common.{◌≡◌}
use Rattle.step_core.proofs.schedule.Schedule.take_turn.Given as goal

abbrev pub invariant-loop : goal.invariant-loop
invariant-loop l = l.core ≡ l.initial.core
