use Rattle.std.proofs.Common.{refl}
use Rattle.scene_model.specs.Scenes.{sender, receiver}
use Rattle.scene_model.specs.Waits.{stated}
use Rattle.scene_model.proofs.WorkedTimes.{keeps_two-accepted, keeps_two-limits, late_back-accepted, late_back-limits}
use Rattle.scene_model.proofs.worked_times.worked_connections_hold.Goals as goal

pub returns : goal.returns
unfolding sender receiver stated
returns c = record {
  late_back = late_back-accepted;
  late_back_limits = late_back-limits;
  keeps_two = keeps_two-accepted;
  keeps_two_limits = keeps_two-limits;
  states_two = refl;
  states_more_than_its_ends = refl;
}
