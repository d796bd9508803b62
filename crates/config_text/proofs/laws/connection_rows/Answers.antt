use Rattle.config_text.proofs.Rows as rows
use Rattle.config_text.proofs.laws.connection_rows.Goals as goal

pub returns-clause-from_receiver : goal.returns-clause-from_receiver
returns-clause-from_receiver c = rows.from_receiver

pub returns-clause-no_latency_at_all : goal.returns-clause-no_latency_at_all
returns-clause-no_latency_at_all c = rows.no_latency_at_all

pub returns-clause-most_stated : goal.returns-clause-most_stated
returns-clause-most_stated c = rows.most_stated

pub returns-clause-no_time : goal.returns-clause-no_time
returns-clause-no_time c = rows.no_time

pub returns-clause-time_above : goal.returns-clause-time_above
returns-clause-time_above c = rows.time_above

pub returns-clause-no_blocks : goal.returns-clause-no_blocks
returns-clause-no_blocks c = rows.no_blocks

pub returns-clause-count_above : goal.returns-clause-count_above
returns-clause-count_above c = rows.count_above

pub returns-clause-latency_twice : goal.returns-clause-latency_twice
returns-clause-latency_twice c = rows.latency_twice

pub returns-clause-buffered_twice : goal.returns-clause-buffered_twice
returns-clause-buffered_twice c = rows.buffered_twice

pub returns-clause-blanks_at_equals : goal.returns-clause-blanks_at_equals
returns-clause-blanks_at_equals c = rows.blanks_at_equals

pub returns-clause-second_bracket : goal.returns-clause-second_bracket
returns-clause-second_bracket c = rows.second_bracket

pub returns-clause-word_behind_width : goal.returns-clause-word_behind_width
returns-clause-word_behind_width c = rows.word_behind_width

pub returns-clause-word_behind_end : goal.returns-clause-word_behind_end
returns-clause-word_behind_end c = rows.word_behind_end

pub returns-clause-option_before_width : goal.returns-clause-option_before_width
returns-clause-option_before_width c = rows.option_before_width

pub returns-clause-both_arrows : goal.returns-clause-both_arrows
returns-clause-both_arrows c = rows.both_arrows

pub returns-clause-width_before_option : goal.returns-clause-width_before_option
returns-clause-width_before_option c = rows.width_before_option

pub returns-clause-name_before_width : goal.returns-clause-name_before_width
returns-clause-name_before_width c = rows.name_before_width

pub returns-clause-line_before_name : goal.returns-clause-line_before_name
returns-clause-line_before_name c = rows.line_before_name

pub returns-clause-as_written : goal.returns-clause-as_written
returns-clause-as_written c = rows.as_written
