use Rattle.app_turn.proofs.Acts.{few_steps}
use Rattle.app_turn.proofs.machine.AppMachine.clock.Goals as goal

pub clock_of-requires-clause-step : goal.clock_of-requires-clause-step
clock_of-requires-clause-step c = few_steps _ _ c.self.invariant
