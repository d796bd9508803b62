-- Worked scenes have no fault, part by part.
use Rattle.std.proofs.Common.{zero, suc, refl, arith}
use Rattle.music_base.specs.Clocks.{steps_until}
use Rattle.index_maps.specs.Intervals.{ranks_mapping, first_shared}
use Rattle.scene_model.specs.Faults.{IsApp, IsFaultless}
use Rattle.scene_model.specs.Links.{covers, has_ends, input_of, maps_below, output_of}
use Rattle.scene_model.specs.Ports.{HasMessageMap}
use Rattle.scene_model.specs.Rules.{has_port, is_mapped, is_rate, runs_for}
use Rattle.scene_model.specs.Scenes.{app_at}
use Rattle.scene_model.specs.Values.{indices_mapped, values_in_step}
use Rattle.scene_model.specs.WorkedRealistic.{clk, left, realistic, right, watch, wave}
use Rattle.scene_model.specs.WorkedScenes.{event_each_tick, linear, ramp_held, shared_index}
use Rattle.scene_model.specs.declared.port.Direction.TheVariants.{Output, Input}
use Rattle.scene_model.specs.declared.port.PortKind.TheVariants.{Messages}

-- ---- two applications

event_each_tick_sender : IsApp (app_at event_each_tick 0)
unfolding ranks_mapping first_shared steps_until has_port is_mapped is_rate runs_for indices_mapped values_in_step
event_each_tick_sender = record {
  name = refl;
  np = (omega arith, omega arith);
  start = omega arith;
  stop = omega arith;
  tick = (omega arith, omega arith);
  few_steps = omega arith;
  ports = record { few = omega arith; each = (record { name = refl; ranks = refl; indices = refl; once = refl; message = tt; latency = omega arith; delay = omega arith; buffered = tt }, tt); differ = refl };
  rules = record { few = omega arith; spellable = refl; stand = refl };
  few_values = omega arith;
}

event_each_tick_receiver : IsApp (app_at event_each_tick 1)
unfolding ranks_mapping first_shared steps_until has_port is_mapped is_rate runs_for indices_mapped values_in_step
event_each_tick_receiver = record {
  name = refl;
  np = (omega arith, omega arith);
  start = omega arith;
  stop = omega arith;
  tick = (omega arith, omega arith);
  few_steps = omega arith;
  ports = record { few = omega arith; each = (record { name = refl; ranks = refl; indices = refl; once = refl; message = tt; latency = omega arith; delay = omega arith; buffered = tt }, tt); differ = refl };
  rules = record { few = omega arith; spellable = refl; stand = refl };
  few_values = omega arith;
}

pub event_each_tick_is : IsFaultless event_each_tick
unfolding has_ends input_of output_of maps_below covers
event_each_tick_is = record {
  stop = omega arith;
  apps = record { few = omega arith; each = (event_each_tick_sender, (event_each_tick_receiver, tt)); differ = refl };
  few_links = omega arith;
  link_numbers = refl;
  links = record { with_ends = refl; directed = refl; of_one_kind = refl; within_width = refl; with_values = refl; pairs_once = refl; continuous_once = refl };
}

shared_index_sender : IsApp (app_at shared_index 0)
unfolding ranks_mapping first_shared steps_until has_port is_mapped is_rate runs_for indices_mapped values_in_step
shared_index_sender = record {
  name = refl;
  np = (omega arith, omega arith);
  start = omega arith;
  stop = omega arith;
  tick = (omega arith, omega arith);
  few_steps = omega arith;
  ports = record { few = omega arith; each = (record { name = refl; ranks = refl; indices = refl; once = refl; message = tt; latency = omega arith; delay = omega arith; buffered = tt }, tt); differ = refl };
  rules = record { few = omega arith; spellable = refl; stand = refl };
  few_values = omega arith;
}

shared_index_receiver : IsApp (app_at shared_index 1)
unfolding ranks_mapping first_shared steps_until has_port is_mapped is_rate runs_for indices_mapped values_in_step
shared_index_receiver = record {
  name = refl;
  np = (omega arith, omega arith);
  start = omega arith;
  stop = omega arith;
  tick = (omega arith, omega arith);
  few_steps = omega arith;
  ports = record { few = omega arith; each = (record { name = refl; ranks = refl; indices = refl; once = refl; message = tt; latency = omega arith; delay = omega arith; buffered = tt }, tt); differ = refl };
  rules = record { few = omega arith; spellable = refl; stand = refl };
  few_values = omega arith;
}

pub shared_index_is : IsFaultless shared_index
unfolding has_ends input_of output_of maps_below covers
shared_index_is = record {
  stop = omega arith;
  apps = record { few = omega arith; each = (shared_index_sender, (shared_index_receiver, tt)); differ = refl };
  few_links = omega arith;
  link_numbers = refl;
  links = record { with_ends = refl; directed = refl; of_one_kind = refl; within_width = refl; with_values = refl; pairs_once = refl; continuous_once = refl };
}

ramp_held_sender : IsApp (app_at ramp_held 0)
unfolding ranks_mapping first_shared steps_until has_port is_mapped is_rate runs_for indices_mapped values_in_step
ramp_held_sender = record {
  name = refl;
  np = (omega arith, omega arith);
  start = omega arith;
  stop = omega arith;
  tick = (omega arith, omega arith);
  few_steps = omega arith;
  ports = record { few = omega arith; each = (record { name = refl; ranks = refl; indices = refl; once = refl; message = tt; latency = omega arith; delay = omega arith; buffered = tt }, tt); differ = refl };
  rules = record { few = omega arith; spellable = refl; stand = refl };
  few_values = omega arith;
}

ramp_held_receiver : IsApp (app_at ramp_held 1)
unfolding ranks_mapping first_shared steps_until has_port is_mapped is_rate runs_for indices_mapped values_in_step
ramp_held_receiver = record {
  name = refl;
  np = (omega arith, omega arith);
  start = omega arith;
  stop = omega arith;
  tick = (omega arith, omega arith);
  few_steps = omega arith;
  ports = record { few = omega arith; each = (record { name = refl; ranks = refl; indices = refl; once = refl; message = tt; latency = omega arith; delay = omega arith; buffered = tt }, tt); differ = refl };
  rules = record { few = omega arith; spellable = refl; stand = refl };
  few_values = omega arith;
}

pub ramp_held_is : IsFaultless ramp_held
unfolding has_ends input_of output_of maps_below covers
ramp_held_is = record {
  stop = omega arith;
  apps = record { few = omega arith; each = (ramp_held_sender, (ramp_held_receiver, tt)); differ = refl };
  few_links = omega arith;
  link_numbers = refl;
  links = record { with_ends = refl; directed = refl; of_one_kind = refl; within_width = refl; with_values = refl; pairs_once = refl; continuous_once = refl };
}

-- ---- five applications

-- the message ports map index 0 at their only rank
message_out : HasMessageMap Messages Output (linear 0 1)
message_out zero lt = refl
message_out (suc r) lt = absurd (omega arith)

message_in : HasMessageMap Messages Input (linear 0 1)
message_in zero lt = refl
message_in (suc r) lt = absurd (omega arith)

clk_is : IsApp clk
unfolding ranks_mapping first_shared steps_until has_port is_mapped is_rate runs_for indices_mapped values_in_step
clk_is = record {
  name = refl;
  np = (omega arith, omega arith);
  start = omega arith;
  stop = omega arith;
  tick = (omega arith, omega arith);
  few_steps = omega arith;
  ports = record { few = omega arith; each = (record { name = refl; ranks = refl; indices = refl; once = refl; message = tt; latency = omega arith; delay = omega arith; buffered = tt }, (record { name = refl; ranks = refl; indices = refl; once = refl; message = message_out; latency = omega arith; delay = omega arith; buffered = tt }, tt)); differ = refl };
  rules = record { few = omega arith; spellable = refl; stand = refl };
  few_values = omega arith;
}

left_is : IsApp left
unfolding ranks_mapping first_shared steps_until has_port is_mapped is_rate runs_for indices_mapped values_in_step
left_is = record {
  name = refl;
  np = (omega arith, omega arith);
  start = omega arith;
  stop = omega arith;
  tick = (omega arith, omega arith);
  few_steps = omega arith;
  ports = record { few = omega arith; each = (record { name = refl; ranks = refl; indices = refl; once = refl; message = tt; latency = omega arith; delay = omega arith; buffered = tt }, (record { name = refl; ranks = refl; indices = refl; once = refl; message = tt; latency = omega arith; delay = omega arith; buffered = tt }, tt)); differ = refl };
  rules = record { few = omega arith; spellable = refl; stand = refl };
  few_values = omega arith;
}

right_is : IsApp right
unfolding ranks_mapping first_shared steps_until has_port is_mapped is_rate runs_for indices_mapped values_in_step
right_is = record {
  name = refl;
  np = (omega arith, omega arith);
  start = omega arith;
  stop = omega arith;
  tick = (omega arith, omega arith);
  few_steps = omega arith;
  ports = record { few = omega arith; each = (record { name = refl; ranks = refl; indices = refl; once = refl; message = tt; latency = omega arith; delay = omega arith; buffered = tt }, (record { name = refl; ranks = refl; indices = refl; once = refl; message = tt; latency = omega arith; delay = omega arith; buffered = tt }, tt)); differ = refl };
  rules = record { few = omega arith; spellable = refl; stand = refl };
  few_values = omega arith;
}

wave_is : IsApp wave
unfolding ranks_mapping first_shared steps_until has_port is_mapped is_rate runs_for indices_mapped values_in_step
wave_is = record {
  name = refl;
  np = (omega arith, omega arith);
  start = omega arith;
  stop = omega arith;
  tick = (omega arith, omega arith);
  few_steps = omega arith;
  ports = record { few = omega arith; each = (record { name = refl; ranks = refl; indices = refl; once = refl; message = tt; latency = omega arith; delay = omega arith; buffered = tt }, (record { name = refl; ranks = refl; indices = refl; once = refl; message = message_in; latency = omega arith; delay = omega arith; buffered = tt }, tt)); differ = refl };
  rules = record { few = omega arith; spellable = refl; stand = refl };
  few_values = omega arith;
}

watch_is : IsApp watch
unfolding ranks_mapping first_shared steps_until has_port is_mapped is_rate runs_for indices_mapped values_in_step
watch_is = record {
  name = refl;
  np = (omega arith, omega arith);
  start = omega arith;
  stop = omega arith;
  tick = (omega arith, omega arith);
  few_steps = omega arith;
  ports = record { few = omega arith; each = (record { name = refl; ranks = refl; indices = refl; once = refl; message = tt; latency = omega arith; delay = omega arith; buffered = tt }, (record { name = refl; ranks = refl; indices = refl; once = refl; message = tt; latency = omega arith; delay = omega arith; buffered = tt }, (record { name = refl; ranks = refl; indices = refl; once = refl; message = tt; latency = omega arith; delay = omega arith; buffered = tt }, tt))); differ = refl };
  rules = record { few = omega arith; spellable = refl; stand = refl };
  few_values = omega arith;
}

pub realistic_is : IsFaultless realistic
unfolding has_ends input_of output_of maps_below covers
realistic_is = record {
  stop = omega arith;
  apps = record { few = omega arith; each = (clk_is, (left_is, (right_is, (wave_is, (watch_is, tt))))); differ = refl };
  few_links = omega arith;
  link_numbers = refl;
  links = record { with_ends = refl; directed = refl; of_one_kind = refl; within_width = refl; with_values = refl; pairs_once = refl; continuous_once = refl };
}
