-- Each side computes.
use Rattle.std.proofs.Common.{refl}
use Rattle.scene_model.specs.Links.{maps_below, covers, output_of, input_of}
use Rattle.port_match.specs.Links.{ends_of, fault_between, link_after}
use Rattle.port_match.proofs.laws.small_scenes.Goals as goal

pub returns : goal.returns
unfolding maps_below covers output_of input_of ends_of fault_between link_after
returns c = record {
  no_connection = refl;
  to_itself = refl;
  fan_out = refl;
  fan_in = refl;
  values = refl;
  some_of_the_values = refl;
  values_fan_out = refl;
  messages = refl;
  width = refl;
  options = refl;
  unknown_sender = refl;
  unknown_receiver = refl;
  unknown_output = refl;
  unknown_input = refl;
  from_an_input = refl;
  to_an_output = refl;
  other_kind = refl;
  output_past_width = refl;
  input_past_width = refl;
  no_value = refl;
  pair_twice = refl;
  two_values = refl;
  app_before_port = refl;
  port_before_direction = refl;
  direction_before_kind = refl;
  kind_before_width = refl;
  width_before_values = refl;
  width_before_pair = refl;
  pair_before_two_values = refl;
  first_connection = refl;
}
