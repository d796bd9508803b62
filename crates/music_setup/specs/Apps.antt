-- The stop of a configuration and its applications, or its first fault among these.
use Rattle.std.specs.Prelude.{ℕ, ◌-◌, Bool, false, nat_le, if◌then◌else◌, List, [], length, codes, bytes_eq, Option, None, Some, unwrap_or, Result, Ok, Err}
use Rattle.std.specs.Int.{is_in_range}
use Rattle.music_base.specs.Clocks.{steps_until}
use Rattle.music_base.specs.Counts.{count_up_to}
use Rattle.text_words.specs.Options.{◌when◌}
use Rattle.text_words.specs.OneWord.{time_in}
use Rattle.text_words.specs.InTurn.{◌>>=◌, some_or, faults_as, in_turn}
use Rattle.config_text.specs.Lookup.{looked_up}
use Rattle.config_text.specs.Pairs.{SettingList, value_of}
use Rattle.config_text.specs.declared.config.Config.{Config}
use Rattle.scene_model.specs.declared.port.PortDecl.{PortDecl}
use Rattle.scene_model.specs.declared.rule.Rule.{Rule}
use Rattle.scene_model.specs.declared.scene.AppDecl.{AppDecl}
use Rattle.scene_model.specs.Limits.{most_ranks, longest_tick, most_steps, most_values}
use Rattle.port_table.specs.Ports.{ports_of}
use Rattle.app_scripts.specs.Rules.{rules_of}
use Rattle.scene_model.specs.Values.{values_in_run}
use Rattle.music_setup.specs.declared.fault.AppKind.{AppKind}
use Rattle.music_setup.specs.declared.fault.AppKind.TheVariants.{NpText, Binary, TickText, StartText, EndText, TooManySteps, Ports, Rules, TooManyValues}
use Rattle.music_setup.specs.declared.fault.SceneFault.{SceneFault}
use Rattle.music_setup.specs.declared.times.Times.{Times}
use Rattle.music_setup.specs.declared.fault.SceneFault.TheVariants.{StopMissing, StopText, App}

-- ---- settings

-- the value, where there is one and it is as the test asks
abbrev pub only_if : (ℕ → Bool) → Option ℕ → Option ℕ
only_if test None = None
only_if test (Some n) = n when test n

-- `np` is a COUNT of 1 to 64; where it is absent, the application has one process
unfoldable pub np_in : Option (List ℕ) → Option ℕ
np_in None = Some 1
np_in (Some text) = only_if (nat_le 1) (count_up_to most_ranks text)

-- `binary` is the word `script`
unfoldable pub is_script : Option (List ℕ) → Bool
is_script None = false
is_script (Some text) = bytes_eq text (codes "script")

-- `timestep` is a time of 1 to 10^12 ns
unfoldable pub tick_in : Option (List ℕ) → Option ℕ
tick_in None = None
tick_in (Some text) = only_if (is_in_range 1 longest_tick) (time_in text)

-- `start` is a time; where it is absent, the application starts at 0 ns
unfoldable pub start_in : Option (List ℕ) → Option ℕ
start_in None = Some 0
start_in (Some text) = time_in text

-- `stoptime` of an application is a time; where it is absent, the application stops with the scene
unfoldable pub end_in : ℕ → Option (List ℕ) → Option ℕ
end_in stop None = Some stop
end_in stop (Some text) = time_in text

-- the default `stoptime` is a time
unfoldable pub stop_in : Option (List ℕ) → Result ℕ SceneFault
stop_in None = Err StopMissing
stop_in (Some text) = some_or (time_in text) StopText

-- `ports` and `args` declare nothing where they are absent
abbrev pub ports_in : ℕ → Option (List ℕ) → Result (List PortDecl) AppKind
ports_in np text = faults_as Ports (ports_of np (unwrap_or text []))

abbrev pub rules_in : List PortDecl → ℕ → ℕ → Option (List ℕ) → Result (List Rule) AppKind
rules_in ports tick span text = faults_as Rules (rules_of ports tick span (unwrap_or text []))

-- ---- an application

-- nothing but this fault, where the test fails
abbrev pub holds_or : {E : Type 0} → Bool → E → Result (Unit {0}) E
holds_or test fault = if test then Ok tt else Err fault

-- how many processes the application of the section at place a, from 0, has
unfoldable pub np_of : Config → ℕ → Result ℕ AppKind
np_of config a = some_or (np_in (looked_up config a (codes "np"))) NpText

-- how long it is from the start to the stop, and 0 where the start is not before the stop
abbrev pub span_of : Times → ℕ
span_of times = times.stop - times.start

-- when that application runs. It is a script, and makes few enough steps
unfoldable pub times_of : Config → ℕ → ℕ → Result Times AppKind
times_of config stop a = do
  scripted ← holds_or (is_script (looked_up config a (codes "binary"))) Binary
  tick ← some_or (tick_in (looked_up config a (codes "timestep"))) TickText
  start ← some_or (start_in (looked_up config a (codes "start"))) StartText
  end ← some_or (end_in stop (looked_up config a (codes "stoptime"))) EndText
  few ← holds_or (nat_le (steps_until (end - start) tick) most_steps) TooManySteps
  Ok (record { start = start; stop = end; tick = tick })

-- the ports and the rules of that application, of so many processes and these times. They are judged by the steps that it makes
-- itself
unfoldable pub parts_in : Config → ℕ → ℕ → Times → Result (List PortDecl × List Rule) AppKind
parts_in config a np times = do
  ports ← ports_in np (looked_up config a (codes "ports"))
  rules ← rules_in ports times.tick (span_of times) (looked_up config a (codes "args"))
  few ← holds_or (nat_le (values_in_run (span_of times) times.tick ports) most_values) TooManyValues
  Ok (ports, rules)

-- The application of the section at place a, from 0, whose name this is, or its first fault. A setting is the section's
-- own, else the default.
unfoldable pub app_in : Config → ℕ → ℕ → List ℕ → Result AppDecl AppKind
app_in config stop a name = do
  np ← np_of config a
  times ← times_of config stop a
  parts ← parts_in config a np times
  Ok (record { name = name; np = np; start = times.start; stop = times.stop; tick = times.tick; ports = parts.0; rules = parts.1 })

-- ---- the whole

-- what a section gives behind the applications before it
abbrev pub app_beside : Config → ℕ → List AppDecl → List ℕ × SettingList → Result AppDecl SceneFault
app_beside config stop before section = faults_as (App (length before)) (app_in config stop (length before) section.0)

-- the applications in the order of the text, or the fault of the first that has one
abbrev pub apps_until : Config → ℕ → Result (List AppDecl) SceneFault
apps_until config stop = in_turn (app_beside config stop) [] config.sections

-- the stop of the scene, which has to stand among the defaults
abbrev pub stop_of : Config → Result ℕ SceneFault
stop_of config = stop_in (value_of config.defaults (codes "stoptime"))

-- the stop, and then the applications
unfoldable pub apps_of : Config → Result (ℕ × List AppDecl) SceneFault
apps_of config = do
  stop ← stop_of config
  apps ← apps_until config stop
  Ok (stop, apps)
