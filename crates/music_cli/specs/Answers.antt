-- The status and the text that words and bytes get.
use Rattle.std.specs.Prelude.{◌≡◌, ◌⊎◌, ℕ, Bool, true, false, List, ◌++◌, length, Option, Some, None, Result, Ok, Err, codes}
use Rattle.std.specs.Fmt.{decimal}
use Rattle.music_base.specs.Lines.{ended}
use Rattle.config_text.specs.Text.{Spells, HasFault}
use Rattle.config_text.specs.declared.config.Config.{Config}
use Rattle.config_text.specs.declared.text_kind.TextKind.{TextKind}
use Rattle.scene_model.specs.Cover.{IsReportable}
use Rattle.scene_model.specs.Lives.{history}
use Rattle.scene_model.specs.Logs.{log_of, rows}
use Rattle.scene_model.specs.Orders.{IsLive}
use Rattle.scene_model.specs.Waits.{AreLimits, IsAccepted, stated_limits, waits}
use Rattle.scene_model.specs.declared.act.Act.{Act}
use Rattle.scene_model.specs.declared.scene.Scene.{Scene}
use Rattle.scene_model.specs.declared.wait.Wait.{Wait}
use Rattle.cycle_check.specs.CycleTexts.{cycle_text, names_of}
use Rattle.scene_make.specs.Made.{made}
use Rattle.act_orders.specs.Finished.{IsFinishedOrder}
use Rattle.act_orders.specs.OrderTexts.{order_text}
use Rattle.music_setup.specs.Scenes.{scene_of}
use Rattle.music_setup.specs.Setups.{SpellsScene}
use Rattle.music_setup.specs.Texts.{text_of_fault}
use Rattle.music_setup.specs.declared.fault.SetupFault.{SetupFault}
use Rattle.music_setup.specs.declared.fault.SetupFault.TheVariants as setup
use Rattle.command_words.specs.Words.{command_of}
use Rattle.command_words.specs.declared.command.Command.{Command}
use Rattle.command_words.specs.declared.command.Command.TheVariants.{Check, Plan, Order, Run, Load}
use Rattle.music_cli.specs.PlanTexts.{plan_text}
use Rattle.music_cli.specs.declared.status.Status.{Status}
use Rattle.music_cli.specs.declared.status.Status.TheVariants.{Done, Usage, TextFault, SceneFault, CycleFault, ReadFault, WriteFault, NoMemory}

-- ---- statuses

-- the exit status of each outcome
abbrev pub number_of : Status → ℕ
number_of Done = 0
number_of Usage = 2
number_of TextFault = 3
number_of SceneFault = 4
number_of CycleFault = 5
number_of ReadFault = 6
number_of WriteFault = 7
number_of NoMemory = 8

-- the outcome that each fault is
abbrev pub status_of : SetupFault → Status
status_of (setup.Text _ _) = TextFault
status_of (setup.Scene _) = SceneFault
status_of (setup.Link _ _) = SceneFault
status_of (setup.Uncovered _) = CycleFault
status_of setup.Memory = NoMemory

-- refused words end with the usage line, or with a write fault or want of memory
abbrev pub ends_refusal : Status → Bool
ends_refusal Usage = true
ends_refusal WriteFault = true
ends_refusal NoMemory = true
ends_refusal _ = false

-- a command that takes input ends with anything but the usage line
abbrev pub ends_scene : Status → Bool
ends_scene Usage = false
ends_scene _ = true

-- `load` is done, or ends with a write fault or want of memory
abbrev pub ends_load : Status → Bool
ends_load Done = true
ends_load WriteFault = true
ends_load NoMemory = true
ends_load _ = false

abbrev pub ends_command : Command → Status → Bool
ends_command Check = ends_scene
ends_command Plan = ends_scene
ends_command Order = ends_scene
ends_command (Run workers) = ends_scene
ends_command (Load number workers) = ends_load

-- whether an outcome can come at all: where the words are refused, and to a command
abbrev pub can_end : Option Command → Status → Bool
can_end None = ends_refusal
can_end (Some command) = ends_command command

-- ---- texts

unfoldable pub usage_text : List ℕ
usage_text = ended (codes "usage: music check | plan | order | run [--workers N] | load --number N [--workers N]")

unfoldable pub read_fault_text : List ℕ
read_fault_text = ended (codes "read fault")

-- how many applications and connections a scene has
unfoldable pub ok_text : Scene → List ℕ
ok_text scene = ended (codes "ok: " ++ decimal (length scene.apps) ++ codes " applications, " ++ decimal (length scene.links) ++ codes " connections")

-- how large the scene of a number is, and how many rows and bytes its log has. The header is no row
unfoldable pub load_text : ℕ → Scene → List ℕ
load_text number scene = ended (
    codes "load "
    ++ decimal number
    ++ codes ": "
    ++ decimal (length scene.apps)
    ++ codes " applications, "
    ++ decimal (length scene.links)
    ++ codes " connections, "
    ++ decimal (length (rows scene (history scene)))
    ++ codes " rows, "
    ++ decimal (length (log_of scene))
    ++ codes " bytes"
    )

-- ---- answers

-- a fault gets its status and its text; where it is one of an application, that is named as in the configuration
abbrev pub AnswersFault : Option Config → SetupFault → Status → List ℕ → Type 0
AnswersFault config fault status text = (status ≡ status_of fault) × (text ≡ text_of_fault config fault)

-- A cycle of the scene's waits under stated limits is not covered, and its text is written. No application waits twice in
-- it, and its first waiter has the least place.
abbrev pub AnswersUncovered : Scene → Status → List ℕ → Type 0
AnswersUncovered scene status text =
    (cycle : List Wait) × IsReportable (waits scene (stated_limits scene)) cycle
    × (status ≡ CycleFault) × (text ≡ cycle_text (names_of scene) cycle)

-- a line for each act of a lawful order under the scene's limits after which every application is finished
abbrev pub IsOrderOf : Scene → List ℕ → Type 0
IsOrderOf scene text =
    (limits : List ℕ) × AreLimits scene limits × (acts : List Act) × IsFinishedOrder scene limits acts × (text ≡ order_text scene acts)

-- what a command writes of an accepted scene: `check` its size, `plan` its limits, `order` such an order, `run` its log, and
-- `load` its size with that of its log
abbrev pub Writes : Command → Scene → List ℕ → Type 0
Writes Check scene text = text ≡ ok_text scene
Writes Plan scene text = (limits : List ℕ) × AreLimits scene limits × (text ≡ plan_text scene limits)
Writes Order scene text = IsOrderOf scene text
Writes (Run workers) scene text = text ≡ log_of scene
Writes (Load number workers) scene text = text ≡ load_text number scene

-- the command is done, and this is what it writes
abbrev pub AnswersDone : Command → Scene → Status → List ℕ → Type 0
AnswersDone command scene status text = (status ≡ Done) × Writes command scene text

-- the command is done with an accepted scene, and any other one gets a cycle that is not covered
abbrev pub AnswersOf : Command → Scene → Status → List ℕ → Type 0
AnswersOf command scene status text = AnswersUncovered scene status text ⊎ (IsAccepted scene × AnswersDone command scene status text)

-- what is answered of the scene that the configuration describes, or the first fault of the configuration
abbrev pub AnswersScene : Command → Config → Result Scene SetupFault → Status → List ℕ → Type 0
AnswersScene command config (Ok scene) = AnswersOf command scene
AnswersScene command config (Err fault) = AnswersFault (Some config) fault

abbrev pub AnswersConfig : Command → Config → Status → List ℕ → Type 0
AnswersConfig command config = AnswersScene command config (scene_of config)

-- a faulty text gets its first fault, whatever the command is
abbrev pub AnswersFaulty : List ℕ → Status → List ℕ → Type 0
AnswersFaulty bytes status text = (line : ℕ) × (kind : TextKind) × HasFault bytes line kind × AnswersFault None (setup.Text line kind) status text

-- a text gets its first fault, or what the command answers to the configuration that it spells
abbrev pub AnswersText : Command → List ℕ → Status → List ℕ → Type 0
AnswersText command bytes status text = AnswersFaulty bytes status text ⊎ ((config : Config) × Spells config bytes × AnswersConfig command config status text)

-- `load` is done with the scene that is made from its number, which is accepted
abbrev pub AnswersMade : ℕ → ℕ → Status → List ℕ → Type 0
AnswersMade number workers status text =
    (scene : Scene) × (scene_of (made number) ≡ Ok scene) × IsAccepted scene × AnswersDone (Load number workers) scene status text

-- what a command answers; to `load` the bytes are nothing
abbrev pub AnswersAsked : Command → List ℕ → Status → List ℕ → Type 0
AnswersAsked Check bytes = AnswersText Check bytes
AnswersAsked Plan bytes = AnswersText Plan bytes
AnswersAsked Order bytes = AnswersText Order bytes
AnswersAsked (Run workers) bytes = AnswersText (Run workers) bytes
AnswersAsked (Load number workers) bytes = AnswersMade number workers

abbrev pub AnswersCommand : Option Command → List ℕ → Status → List ℕ → Type 0
AnswersCommand None bytes status text = (status ≡ Usage) × (text ≡ usage_text)
AnswersCommand (Some command) bytes status text = AnswersAsked command bytes status text

-- words and bytes get this status and this text
abbrev pub Answers : List (List ℕ) → List ℕ → Status → List ℕ → Type 0
Answers words bytes status text = AnswersCommand (command_of words) bytes status text

-- the scene has limits, and under them it never gets stuck: after every lawful order some act is allowed, or all
-- applications are finished
abbrev pub HasLiveLimits : Scene → Type 0
HasLiveLimits scene = (limits : List ℕ) × AreLimits scene limits × IsLive scene limits

-- a number makes a scene that has such limits
abbrev pub MakesLive : ℕ → Type 0
MakesLive number = (scene : Scene) × (scene_of (made number) ≡ Ok scene) × HasLiveLimits scene

-- ---- what can be done

-- each command that takes input can be done where the bytes spell a configuration that describes an accepted scene
abbrev pub CanDo : List ℕ → Type 0
CanDo bytes = (scene : Scene) × SpellsScene bytes scene × IsAccepted scene
