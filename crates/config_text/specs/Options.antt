-- What a connection states of its own: how late its blocks may come, and how many of them it keeps.
use Rattle.std.specs.Prelude.{ℕ, ◌∷◌, [], ◌++◌, Bool, true, ◌&&◌, nat_le, if◌then◌else◌, List, Option, Some, None, bytes_eq, codes, is_none}
use Rattle.std.specs.Fmt.{decimal}
use Rattle.std.specs.Int.{is_in_range}
use Rattle.std.specs.List.{list_any, before_first, after_first}
use Rattle.std.specs.Result.{result_ok}
use Rattle.music_base.specs.Blanks.{space}
use Rattle.music_base.specs.Counts.{count_up_to}
use Rattle.music_base.specs.declared.limits.TheConstants.{MOST_BUFFERED}
use Rattle.music_base.specs.Times.{canonical_time, greatest_time, time_value}
use Rattle.text_words.specs.Options.{◌>>=◌, ◌when◌}
use Rattle.text_words.specs.Words.{words}
use Rattle.config_text.specs.Bytes.{is_equals}
use Rattle.config_text.specs.declared.link_options.LinkOptions.{LinkOptions}

abbrev pub no_options : LinkOptions
no_options = record { latency = None; buffered = None }

-- no connection states that it keeps more blocks
abbrev pub most_buffered : ℕ
most_buffered = MOST_BUFFERED

-- ---- how they are read

-- a time that does not stand yet
abbrev pub latency_in : LinkOptions → List ℕ → Option LinkOptions
latency_in options text = do
  time ← result_ok (time_value text)
  record options { latency = Some time } when is_none options.latency

-- a count of at least 1 that does not stand yet
abbrev pub buffered_in : LinkOptions → List ℕ → Option LinkOptions
buffered_in options text = do
  count ← count_up_to most_buffered text
  record options { buffered = Some count } when nat_le 1 count && is_none options.buffered

abbrev pub option_named : LinkOptions → List ℕ → List ℕ → Option LinkOptions
option_named options name value =
    if bytes_eq name (codes "latency") then latency_in options value
    else if bytes_eq name (codes "buffered") then buffered_in options value else None

-- name=value
abbrev pub option_in : LinkOptions → List ℕ → Option LinkOptions
option_in options word =
    if list_any is_equals word then option_named options (before_first is_equals word) (after_first is_equals word) else None

-- one word after the other, in any order
abbrev pub options_in_turn : LinkOptions → List (List ℕ) → Option LinkOptions
options_in_turn options [] = Some options
options_in_turn options (word ∷ words) = option_in options word >>= λ more. options_in_turn more words

-- what the words of a text state
unfoldable pub options_in : List ℕ → Option LinkOptions
options_in text = options_in_turn no_options (words text)

-- ---- what they obey

abbrev pub is_latency : Option ℕ → Bool
is_latency None = true
is_latency (Some latency) = nat_le latency greatest_time

abbrev pub is_buffered : Option ℕ → Bool
is_buffered None = true
is_buffered (Some count) = is_in_range 1 most_buffered count

-- ---- how they are written

-- nothing, or latency=0.001 behind a space
abbrev pub latency_text : Option ℕ → List ℕ
latency_text None = []
latency_text (Some latency) = space ∷ codes "latency=" ++ canonical_time latency

-- nothing, or buffered=3 behind a space
abbrev pub buffered_text : Option ℕ → List ℕ
buffered_text None = []
buffered_text (Some count) = space ∷ codes "buffered=" ++ decimal count
