use Rattle.scene_model.proofs.WorkedCycles.{latency_of_a_tick-accepted, to_itself_late-accepted, uneven_but_late-accepted}
use Rattle.scene_model.proofs.worked_orders.worked_scenes_are_accepted.Goals as goal

pub returns : goal.returns
returns c = record {
  latency_of_a_tick = latency_of_a_tick-accepted;
  uneven_but_late = uneven_but_late-accepted;
  to_itself_late = to_itself_late-accepted;
}
