use Rattle.step_core.proofs.Going.{did_one}
use Rattle.step_core.proofs.schedule.act_anywhere.Goals as goal
