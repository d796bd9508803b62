use Rattle.scene_model.proofs.WorkedCycles.{little_room-uncovered, no_latency-uncovered, short_latency-uncovered, to_itself-uncovered, uneven_ticks-uncovered}
use Rattle.scene_model.proofs.worked_orders.worked_cycles_hold.Goals as goal

pub returns : goal.returns
returns c = record {
  no_latency = no_latency-uncovered;
  short_latency = short_latency-uncovered;
  uneven_ticks = uneven_ticks-uncovered;
  to_itself = to_itself-uncovered;
  little_room = little_room-uncovered;
}
