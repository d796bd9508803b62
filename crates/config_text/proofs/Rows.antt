-- Some connections, as they are read and written.
use Rattle.std.proofs.Common.{◌≡◌, Some, None, refl, arith}
use Rattle.std.specs.Prelude.{Err, codes}
use Rattle.std.proofs.lemmas.Fmt.{decimal_digit}
use Rattle.music_base.specs.Counts.{count_up_to}
use Rattle.music_base.specs.Times.{time_value, scaled, canonical_time}
use Rattle.text_words.specs.Words.{words}
use Rattle.config_text.specs.declared.text_kind.TextKind.TheVariants.{BadLine, BadName, BadWidth, BadOption}
use Rattle.config_text.specs.ConnectionRows.{ab_to_cd, reads_ab_to_cd}
use Rattle.config_text.specs.Connections.{link_line}
use Rattle.config_text.specs.Contents.{content_of}
use Rattle.config_text.specs.Options.{options_in}

pub from_receiver : content_of (codes "c.d<-a.b[007]buffered=2 latency=1e-3") ≡ reads_ab_to_cd (Some 7) (Some 1000000) (Some 2)
unfolding options_in words time_value scaled count_up_to
from_receiver = refl

pub no_latency_at_all : content_of (codes "a.b -> c.d latency=0") ≡ reads_ab_to_cd None (Some 0) None
unfolding options_in words time_value scaled count_up_to
no_latency_at_all = refl

pub most_stated : content_of (codes "a.b -> c.d latency=1000000 buffered=1000000") ≡ reads_ab_to_cd None (Some 1000000000000000) (Some 1000000)
unfolding options_in words time_value scaled count_up_to
most_stated = refl

pub no_time : content_of (codes "a.b <- c.d latency=x") ≡ Err BadOption
unfolding options_in words time_value scaled count_up_to
no_time = refl

pub time_above : content_of (codes "a.b -> c.d latency=1000000.000000001") ≡ Err BadOption
unfolding options_in words time_value scaled count_up_to
time_above = refl

pub no_blocks : content_of (codes "a.b -> c.d buffered=0") ≡ Err BadOption
unfolding options_in words time_value scaled count_up_to
no_blocks = refl

pub count_above : content_of (codes "a.b -> c.d buffered=1000001") ≡ Err BadOption
unfolding options_in words time_value scaled count_up_to
count_above = refl

pub latency_twice : content_of (codes "a.b -> c.d latency=0 latency=0") ≡ Err BadOption
unfolding options_in words time_value scaled count_up_to
latency_twice = refl

pub buffered_twice : content_of (codes "a.b -> c.d buffered=1 latency=0 buffered=1") ≡ Err BadOption
unfolding options_in words time_value scaled count_up_to
buffered_twice = refl

pub blanks_at_equals : content_of (codes "a.b -> c.d latency = 1") ≡ Err BadOption
unfolding options_in words time_value scaled count_up_to
blanks_at_equals = refl

pub second_bracket : content_of (codes "a.b -> c.d [1]]") ≡ Err BadOption
unfolding options_in words time_value scaled count_up_to
second_bracket = refl

pub word_behind_width : content_of (codes "a.b -> c.d [1] x") ≡ Err BadOption
unfolding options_in words time_value scaled count_up_to
word_behind_width = refl

pub word_behind_end : content_of (codes "a.b -> c.d x") ≡ Err BadOption
unfolding options_in words time_value scaled count_up_to
word_behind_end = refl

pub option_before_width : content_of (codes "a.b -> c.d latency=1 [4]") ≡ Err BadName
unfolding options_in words time_value scaled count_up_to
option_before_width = refl

pub both_arrows : content_of (codes "a.b<->c.d") ≡ Err BadName
unfolding options_in words time_value scaled count_up_to
both_arrows = refl

pub width_before_option : content_of (codes "a.b -> c.d [0] x") ≡ Err BadWidth
unfolding options_in words time_value scaled count_up_to
width_before_option = refl

pub name_before_width : content_of (codes "a.b -> c. [0] x") ≡ Err BadName
unfolding options_in words time_value scaled count_up_to
name_before_width = refl

pub line_before_name : content_of (codes "a. -> c. [0") ≡ Err BadLine
unfolding options_in words time_value scaled count_up_to
line_before_name = refl

a_millisecond : canonical_time 1000000 ≡ codes "0.001"
unfolding canonical_time
a_millisecond = rw (decimal_digit 0 (omega arith)) refl

pub as_written : link_line (ab_to_cd (Some 7) (Some 1000000) (Some 2)) ≡ codes "a.b -> c.d [7] latency=0.001 buffered=2"
as_written = rw (a_millisecond, decimal_digit 7 (omega arith), decimal_digit 2 (omega arith)) refl
