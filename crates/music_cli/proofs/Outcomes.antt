-- Which outcomes can come to a command.
use Rattle.std.proofs.Common.{◌≡◌, ℕ, Bool, true, false, List, Option, Some, None, Ok, Err, refl, ap, ◌∙◌, inl, inr, arith}
use Rattle.std.specs.Prelude.{◌≢◌, Result, is_some}
use Rattle.std.specs.Option.{option_map_or}
use Rattle.config_text.specs.declared.config.Config.{Config}
use Rattle.scene_model.specs.declared.scene.Scene.{Scene}
use Rattle.music_setup.specs.Scenes.{scene_of}
use Rattle.music_setup.specs.declared.fault.SetupFault.{SetupFault}
use Rattle.music_setup.specs.declared.fault.SetupFault.TheVariants as setup
use Rattle.command_words.specs.declared.command.Command.{Command}
use Rattle.command_words.specs.declared.command.Command.TheVariants.{Check, Plan, Order, Run, Load}
use Rattle.music_cli.specs.Words.{takes_input}
use Rattle.music_cli.specs.Answers.{AnswersOf, AnswersScene, AnswersText, AnswersAsked, AnswersCommand, can_end, ends_command, ends_load, ends_scene, number_of, status_of}
use Rattle.music_cli.specs.declared.status.Status.{Status}
use Rattle.music_cli.specs.declared.status.Status.TheVariants.{Done, Usage, TextFault, SceneFault, CycleFault, ReadFault, WriteFault, NoMemory}

-- ---- which statuses a text can get

-- whether an answer to a text can have this status
abbrev pub is_of_a_text : Status → Bool
is_of_a_text Done = true
is_of_a_text Usage = false
is_of_a_text TextFault = true
is_of_a_text SceneFault = true
is_of_a_text CycleFault = true
is_of_a_text ReadFault = false
is_of_a_text WriteFault = false
is_of_a_text NoMemory = true

fault_of_a_text : (fault : SetupFault) → is_of_a_text (status_of fault) ≡ true
fault_of_a_text (setup.Text line kind) = refl
fault_of_a_text (setup.Scene fault) = refl
fault_of_a_text (setup.Link place what) = refl
fault_of_a_text (setup.Uncovered cycle) = refl
fault_of_a_text setup.Memory = refl

of_a_text : (command : Command) (scene : Scene) (status : Status) (text : List ℕ) → AnswersOf command scene status text → is_of_a_text status ≡ true
of_a_text command scene status text answers = elim answers [ inl uncovered ↦ ap is_of_a_text uncovered.2 | inr done ↦ ap is_of_a_text done.1.0 ]

scene_of_a_text : (command : Command) (config : Config) (found : Result Scene SetupFault) (status : Status) (text : List ℕ) → AnswersScene command config found status text → is_of_a_text status ≡ true
scene_of_a_text command config (Ok scene) status text answers = of_a_text command scene status text answers
scene_of_a_text command config (Err fault) status text answers = ap is_of_a_text answers.0 ∙ fault_of_a_text fault

text_of_a_text : (command : Command) (bytes : List ℕ) (status : Status) (text : List ℕ) → AnswersText command bytes status text → is_of_a_text status ≡ true
text_of_a_text command bytes status text answers = elim answers [
  | inl faulty ↦ ap is_of_a_text faulty.3.0
  | inr right ↦ scene_of_a_text command right.0 (scene_of right.0) status text right.2
]

-- an answer of `load` can have it too
asked_of_a_text : (command : Command) (bytes : List ℕ) (status : Status) (text : List ℕ) → AnswersAsked command bytes status text → is_of_a_text status ≡ true
asked_of_a_text Check bytes status text answers = text_of_a_text Check bytes status text answers
asked_of_a_text Plan bytes status text answers = text_of_a_text Plan bytes status text answers
asked_of_a_text Order bytes status text answers = text_of_a_text Order bytes status text answers
asked_of_a_text (Run workers) bytes status text answers = text_of_a_text (Run workers) bytes status text answers
asked_of_a_text (Load number workers) bytes status text answers = ap is_of_a_text answers.3.0

answer_of_a_text : (command : Option Command) (bytes : List ℕ) (status : Status) (text : List ℕ) → is_some command ≡ true → AnswersCommand command bytes status text → is_of_a_text status ≡ true
answer_of_a_text None bytes status text some answers = absurd cc
answer_of_a_text (Some command) bytes status text some answers = asked_of_a_text command bytes status text answers

-- ---- which outcomes can come to a command

-- what a text can get, a command can end with
scene_ends : (status : Status) → is_of_a_text status ≡ true → ends_scene status ≡ true
scene_ends Done is = refl
scene_ends Usage is = absurd cc
scene_ends TextFault is = refl
scene_ends SceneFault is = refl
scene_ends CycleFault is = refl
scene_ends ReadFault is = absurd cc
scene_ends WriteFault is = absurd cc
scene_ends NoMemory is = refl

asked_outcome : (command : Command) (bytes : List ℕ) (status : Status) (text : List ℕ) → AnswersAsked command bytes status text → ends_command command status ≡ true
asked_outcome Check bytes status text answers = scene_ends status (text_of_a_text Check bytes status text answers)
asked_outcome Plan bytes status text answers = scene_ends status (text_of_a_text Plan bytes status text answers)
asked_outcome Order bytes status text answers = scene_ends status (text_of_a_text Order bytes status text answers)
asked_outcome (Run workers) bytes status text answers = scene_ends status (text_of_a_text (Run workers) bytes status text answers)
asked_outcome (Load number workers) bytes status text answers = ap ends_load answers.3.0

pub answer_outcome : (command : Option Command) (bytes : List ℕ) (status : Status) (text : List ℕ) → AnswersCommand command bytes status text → can_end command status ≡ true
answer_outcome None bytes status text answers = ap (can_end None) answers.0
answer_outcome (Some command) bytes status text answers = asked_outcome command bytes status text answers

-- a write fault and want of memory can come to each
pub write_fault_outcome : (command : Option Command) → can_end command WriteFault ≡ true
write_fault_outcome None = refl
write_fault_outcome (Some Check) = refl
write_fault_outcome (Some Plan) = refl
write_fault_outcome (Some Order) = refl
write_fault_outcome (Some (Run workers)) = refl
write_fault_outcome (Some (Load number workers)) = refl

pub memory_outcome : (command : Option Command) → can_end command NoMemory ≡ true
memory_outcome None = refl
memory_outcome (Some Check) = refl
memory_outcome (Some Plan) = refl
memory_outcome (Some Order) = refl
memory_outcome (Some (Run workers)) = refl
memory_outcome (Some (Load number workers)) = refl

-- a read fault to those that take input
pub read_fault_outcome : (command : Option Command) → option_map_or takes_input command false ≡ true → can_end command ReadFault ≡ true
read_fault_outcome None takes = absurd cc
read_fault_outcome (Some Check) takes = refl
read_fault_outcome (Some Plan) takes = refl
read_fault_outcome (Some Order) takes = refl
read_fault_outcome (Some (Run workers)) takes = refl
read_fault_outcome (Some (Load number workers)) takes = absurd cc

pub usage_outcome : (command : Option Command) → is_some command ≡ false → can_end command Usage ≡ true
usage_outcome None none = refl
usage_outcome (Some command) none = absurd cc

-- ---- neither usage nor a fault of the outside comes to a text

apart_from : (status : Status) → is_of_a_text status ≡ true → (number_of status ≢ 2) × (number_of status ≢ 6) × (number_of status ≢ 7)
apart_from Done is = (λ e. omega (arith, e), λ e. omega (arith, e), λ e. omega (arith, e))
apart_from Usage is = absurd cc
apart_from TextFault is = (λ e. omega (arith, e), λ e. omega (arith, e), λ e. omega (arith, e))
apart_from SceneFault is = (λ e. omega (arith, e), λ e. omega (arith, e), λ e. omega (arith, e))
apart_from CycleFault is = (λ e. omega (arith, e), λ e. omega (arith, e), λ e. omega (arith, e))
apart_from ReadFault is = absurd cc
apart_from WriteFault is = absurd cc
apart_from NoMemory is = (λ e. omega (arith, e), λ e. omega (arith, e), λ e. omega (arith, e))

pub no_failure : (command : Option Command) (bytes : List ℕ) (status : Status) (text : List ℕ) → is_some command ≡ true → AnswersCommand command bytes status text
    → (number_of status ≢ number_of Usage) × (number_of status ≢ number_of ReadFault) × (number_of status ≢ number_of WriteFault)
no_failure command bytes status text some answers = apart_from status (answer_of_a_text command bytes status text some answers)
