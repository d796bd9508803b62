use Rattle.step_core.proofs.Going.{turn_then}
use Rattle.step_core.proofs.schedule.Schedule.take_turn.Goals as goal
