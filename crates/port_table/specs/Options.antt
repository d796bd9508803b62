-- The options of a declaration.
use Rattle.std.specs.Prelude.{ℕ, Bool, true, false, ◌&&◌, ◌||◌, nat_le, if◌then◌else◌, List, [], ◌∷◌, codes, bytes_eq, Option, Some, None, is_none}
use Rattle.text_words.specs.Options.{◌>>=◌, ◌when◌}
use Rattle.text_words.specs.OneWord.{time_in}
use Rattle.music_base.specs.Counts.{count_up_to}
use Rattle.scene_model.specs.Limits.{most_buffered}
use Rattle.scene_model.specs.declared.port.Direction.{Direction}
use Rattle.scene_model.specs.declared.port.Direction.TheVariants.{Input}
use Rattle.scene_model.specs.declared.port.PortKind.{PortKind}
use Rattle.scene_model.specs.declared.port.PortKind.TheVariants.{Events, Values, Messages}
use Rattle.port_table.specs.declared.options.Options.{Options}

-- ---- which ports take an option

-- event and message inputs have a latency
abbrev pub takes_latency : Direction → PortKind → Bool
takes_latency Input Events = true
takes_latency Input Messages = true
takes_latency _ _ = false

-- continuous inputs have a delay, and may hold values
abbrev pub takes_delay : Direction → PortKind → Bool
takes_delay Input Values = true
takes_delay _ _ = false

-- no option stands yet
abbrev pub no_options : Options
no_options = record { latency = None; delay = None; interpolate = None; buffered = None }

-- ---- one option, which has to be allowed and not to stand yet

abbrev pub latency_in : Direction → PortKind → Options → List ℕ → Option Options
latency_in direction kind options text =
    if takes_latency direction kind && is_none options.latency then (time_in text >>= λ time. Some (record options { latency = Some time })) else None

abbrev pub delay_in : Direction → PortKind → Options → List ℕ → Option Options
delay_in direction kind options text =
    if takes_delay direction kind && is_none options.delay then (time_in text >>= λ time. Some (record options { delay = Some time })) else None

-- a count of at least 1
abbrev pub buffered_in : Options → List ℕ → Option Options
buffered_in options text =
    if is_none options.buffered then (do
      count ← count_up_to most_buffered text
      record options { buffered = Some count } when nat_le 1 count)
    else None

abbrev pub interpolate_in : Direction → PortKind → Options → Bool → Option Options
interpolate_in direction kind options interpolate =
    record options { interpolate = Some interpolate } when (takes_delay direction kind && is_none options.interpolate)

-- `interpolate` and `hold` are one word each
abbrev pub is_flag : List ℕ → Bool
is_flag word = bytes_eq word (codes "interpolate") || bytes_eq word (codes "hold")

unfoldable pub flag_in : Direction → PortKind → Options → List ℕ → Option Options
flag_in direction kind options word = interpolate_in direction kind options (bytes_eq word (codes "interpolate"))

-- the others are a word and a value
unfoldable pub valued_in : Direction → PortKind → Options → List ℕ → List ℕ → Option Options
valued_in direction kind options word value =
    if bytes_eq word (codes "latency") then latency_in direction kind options value
    else if bytes_eq word (codes "delay") then delay_in direction kind options value
    else if bytes_eq word (codes "buffered") then buffered_in options value else None

-- ---- all options, each at most once, in any order

abbrev pub options_in : Direction → PortKind → Options → List (List ℕ) → Option Options
options_in direction kind options [] = Some options
options_in direction kind options (word ∷ []) = if is_flag word then flag_in direction kind options word else None
options_in direction kind options (word ∷ value ∷ words) =
    if is_flag word then (flag_in direction kind options word >>= λ more. options_in direction kind more (value ∷ words))
    else (valued_in direction kind options word value >>= λ more. options_in direction kind more words)
