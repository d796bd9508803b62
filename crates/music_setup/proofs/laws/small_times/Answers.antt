-- Each side computes.
use Rattle.std.proofs.Common.{refl}
use Rattle.music_base.specs.Clocks.{steps_until}
use Rattle.music_base.specs.Times.{scaled, time_value}
use Rattle.text_words.specs.Words.{words, declarations}
use Rattle.music_base.specs.Counts.{count_up_to}
use Rattle.text_words.specs.Numbers.{signed_within, millionths, fixed}
use Rattle.config_text.specs.Lookup.{looked_up}
use Rattle.index_maps.specs.Intervals.{ranks_mapping, first_shared}
use Rattle.index_maps.specs.Repeats.{first_repeat}
use Rattle.port_table.specs.MapWords.{span_in, index_list, rank_map, rank_maps, split_span, map_in}
use Rattle.port_table.specs.Options.{flag_in, valued_in}
use Rattle.port_table.specs.Ports.{port_in, fault_beside, port_beside}
use Rattle.app_scripts.specs.Forms.{index_word, shift_word, scale_word, message_word, name_after, time_after, fixed_after, shift_after, scale_after, last_time_after, last_fixed_after, emit_at, emit_every, pass, set_value, ramp, copy_values, when_over, say, reply, rule_in}
use Rattle.scene_model.specs.Rules.{has_port, is_mapped, is_rate, runs_for}
use Rattle.app_scripts.specs.Rules.{fault_of, rule_beside}
use Rattle.scene_model.specs.Values.{indices_mapped, values_in_step}
use Rattle.music_setup.specs.Apps.{np_in, is_script, tick_in, start_in, end_in, stop_in, np_of, times_of, parts_in, app_in, apps_of}
use Rattle.music_setup.proofs.laws.small_times.Goals as goal

pub returns : goal.returns
unfolding steps_until scaled time_value words declarations count_up_to signed_within millionths fixed looked_up ranks_mapping first_shared first_repeat span_in index_list rank_map rank_maps split_span map_in flag_in valued_in port_in fault_beside port_beside index_word shift_word scale_word message_word name_after time_after fixed_after shift_after scale_after last_time_after last_fixed_after emit_at emit_every pass set_value ramp copy_values when_over say reply rule_in runs_for has_port is_mapped is_rate fault_of rule_beside indices_mapped values_in_step np_in is_script tick_in stop_in np_of start_in end_in times_of parts_in app_in apps_of
returns c = record {
  own_start = refl;
  default_start = refl;
  later_stop = refl;
  earlier_stop = refl;
  start_at_the_stop = refl;
  start_past_the_stop = refl;
  no_start = refl;
  empty_start = refl;
  no_default_start = refl;
  late_start = refl;
  no_end = refl;
  late_end = refl;
  own_stops_alone = refl;
  default_stop_first = refl;
  default_stop_before_own = refl;
  faulty_own_stop = refl;
  tick_before_start = refl;
  start_before_end = refl;
  end_before_steps = refl;
  start_before_steps = refl;
  steps_before_ports = refl;
  few_from_the_start = refl;
  few_until_the_stop = refl;
  many_until_the_stop = refl;
  few_values = refl;
  many_values = refl;
  few_periods = refl;
  many_periods = refl;
}
