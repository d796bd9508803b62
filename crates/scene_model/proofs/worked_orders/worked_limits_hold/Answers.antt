use Rattle.scene_model.proofs.WorkedLimits.{slow_receiver-limits, two_ways-accepted, two_ways-limits, two_ways-fits, two_ways-well_formed, four_ways-limits, pair-limits}
use Rattle.scene_model.proofs.worked_orders.worked_limits_hold.Goals as goal

pub returns : goal.returns
returns c = record {
  slow_receiver = slow_receiver-limits;
  accepted = two_ways-accepted;
  chosen = two_ways-limits;
  fits = two_ways-fits;
  well_formed = two_ways-well_formed;
  stated = four_ways-limits;
  latency_of_a_tick = pair-limits;
}
