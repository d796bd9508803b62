-- Each side computes.
use Rattle.std.proofs.Common.{refl}
use Rattle.music_base.specs.Times.{scaled, time_value}
use Rattle.text_words.specs.Words.{words, declarations}
use Rattle.music_base.specs.Counts.{count_up_to}
use Rattle.index_maps.specs.Intervals.{ranks_mapping, first_shared}
use Rattle.index_maps.specs.Repeats.{first_repeat}
use Rattle.port_table.specs.MapWords.{span_in, index_list, rank_map, rank_maps, split_span, map_in}
use Rattle.port_table.specs.Options.{flag_in, valued_in}
use Rattle.port_table.specs.Ports.{port_in, fault_beside, port_beside}
use Rattle.port_table.proofs.laws.small_texts.Goals as goal

pub returns : goal.returns
unfolding scaled time_value words declarations count_up_to ranks_mapping first_shared first_repeat span_in index_list rank_map rank_maps split_span map_in flag_in valued_in port_in fault_beside port_beside
returns c = record {
  output = refl;
  list = refl;
  leading_zeros = refl;
  values = refl;
  nothing = refl;
  blank_pieces = refl;
  in_order = refl;
  split = refl;
  empty_rank = refl;
  messages = refl;
  held = refl;
  held_behind_buffered = refl;
  delayed = refl;
  late = refl;
  repeated = refl;
  first_repeat = refl;
  twice = refl;
  repeated_before_twice = refl;
  name_again = refl;
  latency_of_an_output = refl;
  held_and_interpolated = refl;
  option_twice = refl;
  nothing_buffered = refl;
  option_without_value = refl;
  one_rank_of_two = refl;
  past_the_limit = refl;
  empty_entry = refl;
  message_with_a_map = refl;
}
