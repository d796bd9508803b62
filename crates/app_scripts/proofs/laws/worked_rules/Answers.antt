-- Each side computes.
use Rattle.std.proofs.Common.{refl}
use Rattle.music_base.specs.Clocks.{steps_until}
use Rattle.music_base.specs.Times.{scaled, time_value}
use Rattle.text_words.specs.Words.{words, declarations}
use Rattle.music_base.specs.Counts.{count_up_to}
use Rattle.text_words.specs.Numbers.{signed_within, millionths, fixed}
use Rattle.app_scripts.specs.Forms.{index_word, shift_word, scale_word, message_word, name_after, time_after, fixed_after, shift_after, scale_after, last_time_after, last_fixed_after, emit_at, emit_every, pass, set_value, ramp, copy_values, when_over, say, reply, rule_in}
use Rattle.scene_model.specs.Rules.{runs_for, has_port, is_mapped, is_rate}
use Rattle.app_scripts.specs.Rules.{fault_of, rule_beside}
use Rattle.app_scripts.proofs.laws.worked_rules.Goals as goal

pub returns : goal.returns
unfolding steps_until scaled time_value words declarations count_up_to signed_within millionths fixed index_word shift_word scale_word message_word name_after time_after fixed_after shift_after scale_after last_time_after last_fixed_after emit_at emit_every pass set_value ramp copy_values when_over say reply rule_in runs_for has_port is_mapped is_rate fault_of rule_beside
returns c = record {
  no_rules = refl;
  emit_at = refl;
  emit_every = refl;
  pass = refl;
  set = refl;
  ramp = refl;
  copy = refl;
  when = refl;
  say = refl;
  reply = refl;
  blank_pieces = refl;
  second = refl;
  no_form = refl;
  word_too_many = refl;
  no_port = refl;
  other_direction = refl;
  other_kind = refl;
  no_index = refl;
  tick_later = refl;
  no_period = refl;
  short_period = refl;
  long_enough = refl;
  port_before_index = refl;
  index_before_rate = refl;
  port_before_after = refl;
}
