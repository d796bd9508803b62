-- Each side computes.
use Rattle.std.proofs.Common.{refl}
use Rattle.music_base.specs.Clocks.{steps_until}
use Rattle.music_base.specs.Times.{scaled, time_value}
use Rattle.text_words.specs.Words.{words, declarations}
use Rattle.music_base.specs.Counts.{count_up_to}
use Rattle.text_words.specs.Numbers.{signed_within, millionths, fixed}
use Rattle.config_text.specs.Lookup.{looked_up}
use Rattle.index_maps.specs.Intervals.{ranks_mapping, first_shared}
use Rattle.index_maps.specs.Repeats.{first_repeat}
use Rattle.port_table.specs.MapWords.{span_in, index_list, rank_map, rank_maps, split_span, map_in}
use Rattle.port_table.specs.Options.{flag_in, valued_in}
use Rattle.port_table.specs.Ports.{port_in, fault_beside, port_beside}
use Rattle.app_scripts.specs.Forms.{index_word, shift_word, scale_word, message_word, name_after, time_after, fixed_after, shift_after, scale_after, last_time_after, last_fixed_after, emit_at, emit_every, pass, set_value, ramp, copy_values, when_over, say, reply, rule_in}
use Rattle.scene_model.specs.Rules.{has_port, is_mapped, is_rate, runs_for}
use Rattle.app_scripts.specs.Rules.{fault_of, rule_beside}
use Rattle.scene_model.specs.Values.{indices_mapped, values_in_step}
use Rattle.music_setup.specs.Apps.{np_in, is_script, tick_in, start_in, end_in, stop_in, np_of, times_of, parts_in, app_in, apps_of}
use Rattle.music_setup.proofs.laws.small_scenes.Goals as goal

pub returns : goal.returns
unfolding steps_until scaled time_value words declarations count_up_to signed_within millionths fixed looked_up ranks_mapping first_shared first_repeat span_in index_list rank_map rank_maps split_span map_in flag_in valued_in port_in fault_beside port_beside index_word shift_word scale_word message_word name_after time_after fixed_after shift_after scale_after last_time_after last_fixed_after emit_at emit_every pass set_value ramp copy_values when_over say reply rule_in runs_for has_port is_mapped is_rate fault_of rule_beside indices_mapped values_in_step np_in is_script tick_in stop_in np_of start_in end_in times_of parts_in app_in apps_of
returns c = record {
  no_stop = refl;
  empty_stop = refl;
  stop_of_a_section = refl;
  no_section = refl;
  defaults_alone = refl;
  own_before_default = refl;
  in_order = refl;
  empty_texts = refl;
  no_process = refl;
  most_processes = refl;
  too_many_processes = refl;
  other_binary = refl;
  no_time = refl;
  longest_tick = refl;
  too_long_a_tick = refl;
  most_steps = refl;
  too_many_steps = refl;
  faulty_ports = refl;
  faulty_rules = refl;
  values_of_an_output = refl;
  values_of_an_input = refl;
  values_of_both_ranks = refl;
  earlier_application = refl;
  later_application = refl;
  np_before_binary = refl;
  binary_before_tick = refl;
  ports_before_rules = refl;
  rules_before_values = refl;
}
