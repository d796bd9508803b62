use Rattle.scene_model.proofs.WorkedFaultless.{event_each_tick_is, ramp_held_is, realistic_is, shared_index_is}
use Rattle.scene_model.proofs.fault_laws.worked_scenes_have_no_fault.Goals as goal

pub returns : goal.returns
returns c = record {
  event_each_tick = event_each_tick_is;
  shared_index = shared_index_is;
  ramp_held = ramp_held_is;
  realistic = realistic_is;
}
