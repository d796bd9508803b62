-- Each words and bytes have an answer, and what can be done is done.
use Rattle.std.proofs.Common.{◌≡◌, ◌&&◌, ℕ, true, false, List, [], Option, Some, None, Ok, Err, refl, sym, subst, ◌∙◌, inl, inr}
use Rattle.std.specs.Prelude.{Result, IfOk, is_some}
use Rattle.std.specs.Option.{option_map_or}
use Rattle.std.proofs.lemmas.Bool.{and_parts}
use Rattle.config_text.specs.Canon.{is_lawful_config}
use Rattle.config_text.specs.Lawful.{are_links, are_sections, are_settings}
use Rattle.config_text.specs.Text.{Spells}
use Rattle.config_text.specs.declared.config.Config.{Config}
use Rattle.config_text.proofs.OneReading.{some_reading, apart}
use Rattle.config_text.proofs.SpelledLaws.{spelled_lawful}
use Rattle.scene_model.specs.Faults.{IsFaultless}
use Rattle.scene_model.specs.Logs.{log_of}
use Rattle.scene_model.specs.Waits.{IsAccepted}
use Rattle.scene_model.specs.declared.scene.Scene.{Scene}
use Rattle.scene_model.proofs.AcceptedOrReportable.{accepted_is_live, accepted_or_reportable, not_both}
use Rattle.scene_model.proofs.Finish.{can_finish}
use Rattle.cycle_check.specs.CycleTexts.{cycle_text, names_of}
use Rattle.act_orders.specs.OrderTexts.{order_text}
use Rattle.music_setup.specs.Scenes.{scene_of}
use Rattle.music_setup.specs.Setups.{SpellsScene}
use Rattle.music_setup.specs.Texts.{text_of_fault}
use Rattle.music_setup.specs.declared.fault.SetupFault.{SetupFault}
use Rattle.music_setup.specs.declared.fault.SetupFault.TheVariants as setup
use Rattle.music_setup.proofs.Faultless.{scene_is_faultless}
use Rattle.made_laws.proofs.Accepted.{makes_accepted}
use Rattle.command_words.specs.declared.command.Command.{Command}
use Rattle.command_words.specs.declared.command.Command.TheVariants.{Check, Plan, Order, Run, Load}
use Rattle.music_cli.specs.Words.{takes_input}
use Rattle.music_cli.specs.PlanTexts.{plan_text}
use Rattle.music_cli.specs.Answers.{AnswersOf, AnswersScene, AnswersConfig, AnswersText, AnswersMade, AnswersAsked, AnswersCommand, CanDo, Writes, status_of, usage_text, load_text, ok_text}
use Rattle.music_cli.specs.declared.status.Status.{Status}
use Rattle.music_cli.specs.declared.status.Status.TheVariants.{Done, Usage, TextFault, CycleFault}

-- ---- there is an answer

-- each command has something to write of an accepted scene
some_text : (command : Command) (scene : Scene) → IsFaultless scene → IsAccepted scene → (text : List ℕ) × Writes command scene text
some_text Check scene faultless accepted = (ok_text scene, refl)
some_text Plan scene faultless accepted =
    let live = accepted_is_live scene faultless accepted in
    (plan_text scene live.0, (live.0, live.1, refl))
some_text Order scene faultless accepted =
    let live = accepted_is_live scene faultless accepted in
    let order = can_finish scene live.0 live.2 [] (live.2.one_each, tt) in
    (order_text scene order.0, (live.0, live.1, order.0, record { lawful = order.1; finished = order.2 }, refl))
some_text (Run workers) scene faultless accepted = (log_of scene, refl)
some_text (Load number workers) scene faultless accepted = (load_text number scene, refl)

answer_of : (command : Command) (scene : Scene) → IsFaultless scene → (status : Status) × (text : List ℕ) × AnswersOf command scene status text
answer_of command scene faultless = elim (accepted_or_reportable scene faultless) [
  | inl accepted ↦ let writes = some_text command scene faultless accepted in (Done, writes.0, inr (accepted, (refl, writes.1)))
  | inr told ↦ (CycleFault, cycle_text (names_of scene) told.0, inl (told.0, told.1, refl, refl))
]

scene_answer : (command : Command) (config : Config) (found : Result Scene SetupFault) → IfOk found IsFaultless → (status : Status) × (text : List ℕ) × AnswersScene command config found status text
scene_answer command config (Ok scene) faultless = answer_of command scene faultless
scene_answer command config (Err fault) faultless = (status_of fault, text_of_fault (Some config) fault, (refl, refl))

-- the scene that a lawful configuration describes, if any, has no fault
pub lawful_is_faultless : (config : Config) → is_lawful_config config ≡ true → IfOk (scene_of config) IsFaultless
unfolding is_lawful_config
lawful_is_faultless config lawful =
    let parts = and_parts (are_settings config.defaults && are_sections config.sections) (are_links config.links) lawful in
    let front = and_parts (are_settings config.defaults) (are_sections config.sections) parts.0 in
    go (scene_of config) (λ scene gave. scene_is_faultless config scene front.1 parts.1 gave)
  where
    go : (found : Result Scene SetupFault) → ((scene : Scene) → found ≡ Ok scene → IsFaultless scene) → IfOk found IsFaultless
    go (Ok scene) each = each scene refl
    go (Err fault) each = tt

pub config_answer : (command : Command) (config : Config) → is_lawful_config config ≡ true → (status : Status) × (text : List ℕ) × AnswersConfig command config status text
config_answer command config lawful = scene_answer command config (scene_of config) (lawful_is_faultless config lawful)

right_answer : (command : Command) (bytes : List ℕ) (config : Config) → Spells config bytes → (status : Status) × (text : List ℕ) × AnswersText command bytes status text
right_answer command bytes config spells =
    let answer = config_answer command config (spelled_lawful bytes config spells) in
    (answer.0, answer.1, inr (config, spells, answer.2))

pub text_answer : (command : Command) (bytes : List ℕ) → (status : Status) × (text : List ℕ) × AnswersText command bytes status text
text_answer command bytes = elim (some_reading bytes) [
  | inl right ↦ right_answer command bytes right.0 right.1
  | inr faulty ↦ (TextFault, text_of_fault None (setup.Text faulty.0 faulty.1), inl (faulty.0, faulty.1, faulty.2, (refl, refl)))
]

-- each number makes an accepted scene
pub made_answer : (number workers : ℕ) → (status : Status) × (text : List ℕ) × AnswersMade number workers status text
made_answer number workers =
    let makes = makes_accepted number in
    (Done, load_text number makes.0, (makes.0, makes.1, makes.2, (refl, refl)))

asked_answer : (command : Command) (bytes : List ℕ) → (status : Status) × (text : List ℕ) × AnswersAsked command bytes status text
asked_answer Check bytes = text_answer Check bytes
asked_answer Plan bytes = text_answer Plan bytes
asked_answer Order bytes = text_answer Order bytes
asked_answer (Run workers) bytes = text_answer (Run workers) bytes
asked_answer (Load number workers) bytes = made_answer number workers

-- each words and bytes have an answer
pub some_answer : (command : Option Command) (bytes : List ℕ) → (status : Status) × (text : List ℕ) × AnswersCommand command bytes status text
some_answer None bytes = (Usage, usage_text, (refl, refl))
some_answer (Some command) bytes = asked_answer command bytes

pub usage_answer : (command : Option Command) (bytes : List ℕ) → is_some command ≡ false → AnswersCommand command bytes Usage usage_text
usage_answer None bytes none = (refl, refl)
usage_answer (Some command) bytes none = absurd cc

-- a command that takes input answers to it
pub asked_to_text : (command : Command) (bytes : List ℕ) (status : Status) (text : List ℕ) → takes_input command ≡ true → AnswersAsked command bytes status text → AnswersText command bytes status text
asked_to_text Check bytes status text takes answers = answers
asked_to_text Plan bytes status text takes answers = answers
asked_to_text Order bytes status text takes answers = answers
asked_to_text (Run workers) bytes status text takes answers = answers
asked_to_text (Load number workers) bytes status text takes answers = absurd cc

pub text_to_asked : (command : Command) (bytes : List ℕ) (status : Status) (text : List ℕ) → takes_input command ≡ true → AnswersText command bytes status text → AnswersAsked command bytes status text
text_to_asked Check bytes status text takes answers = answers
text_to_asked Plan bytes status text takes answers = answers
text_to_asked Order bytes status text takes answers = answers
text_to_asked (Run workers) bytes status text takes answers = answers
text_to_asked (Load number workers) bytes status text takes answers = absurd cc

-- ---- what can be done is done

-- an accepted scene has no cycle that can be reported
of_accepted : (command : Command) (scene : Scene) (status : Status) (text : List ℕ) → IsAccepted scene → AnswersOf command scene status text → status ≡ Done
of_accepted command scene status text accepted answers = elim answers [
  | inl uncovered ↦ absurd (not_both scene uncovered.0 accepted uncovered.1)
  | inr done ↦ done.1.0
]

scene_done : (command : Command) (config : Config) (found : Result Scene SetupFault) (status : Status) (text : List ℕ) (scene : Scene) → found ≡ Ok scene → IsAccepted scene
    → AnswersScene command config found status text → status ≡ Done
scene_done command config (Ok found) status text scene is accepted answers =
    let same : found ≡ scene = cc in
    of_accepted command found status text (subst IsAccepted (sym same) accepted) answers
scene_done command config (Err fault) status text scene is accepted answers = absurd cc

-- a text spells one configuration
text_done : (command : Command) (bytes : List ℕ) (status : Status) (text : List ℕ) (scene : Scene) → SpellsScene bytes scene → IsAccepted scene → AnswersText command bytes status text → status ≡ Done
text_done command bytes status text scene spells accepted answers = elim answers [
  | inl faulty ↦ absurd (apart bytes spells.0 faulty.0 faulty.1 spells.1 faulty.2)
  | inr right ↦
      let same : spells.0 ≡ right.0 = spells.1.is ∙ sym right.1.is in
      scene_done command right.0 (scene_of right.0) status text scene (subst (λ (config : Config). scene_of config ≡ Ok scene) same spells.2) accepted right.2
]

pub command_done : (command : Option Command) (bytes : List ℕ) (status : Status) (text : List ℕ) → option_map_or takes_input command false ≡ true → CanDo bytes
    → AnswersCommand command bytes status text → status ≡ Done
command_done None bytes status text takes can answers = absurd cc
command_done (Some command) bytes status text takes can answers = text_done command bytes status text can.0 can.1 can.2 (asked_to_text command bytes status text takes answers)
