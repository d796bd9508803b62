-- An answer that was given to a scene, to a configuration or to a text.
use Rattle.std.proofs.Common.{◌≡◌, ◌⊎◌, ℕ, true, List, Option, Some, Ok, refl, sym, ap, subst, ◌∙◌, inl, inr}
use Rattle.music_base.proofs.Transfers.{TookPrefix-nothing}
use Rattle.config_text.specs.Canon.{is_lawful_config}
use Rattle.config_text.specs.declared.config.Config.{Config}
use Rattle.scene_model.specs.Waits.{IsAccepted}
use Rattle.scene_model.specs.declared.scene.Scene.{Scene}
use Rattle.cycle_check.specs.CycleTexts.{cycle_text}
use Rattle.music_setup.specs.Scenes.{scene_of}
use Rattle.music_setup.specs.Texts.{text_of_fault}
use Rattle.music_setup.specs.declared.fault.SetupFault.{SetupFault}
use Rattle.music_setup.specs.declared.fault.SetupFault.TheVariants as setup
use Rattle.music_setup.specs.Setups.{IsConfigFault}
use Rattle.music_setup.proofs.SceneNames.{names_of_scene}
use Rattle.scene_make.specs.Made.{made}
use Rattle.command_words.specs.Words.{command_of}
use Rattle.command_words.specs.declared.command.Command.{Command}
use Rattle.command_words.specs.declared.command.Command.TheVariants.{Load}
use Rattle.music_cli.specs.Words.{take_input}
use Rattle.music_cli.specs.Answers.{Answers, AnswersAsked, AnswersCommand, AnswersConfig, AnswersDone, AnswersFault, AnswersMade, AnswersText, Writes}
use Rattle.music_cli.specs.Clauses.{Ends, IsGiven, IsSaid, Wrote, WrotePrefix, Failed, DidNotFail}
use Rattle.music_cli.proofs.Input.{command_takes_input}
use Rattle.music_cli.proofs.SomeAnswers.{config_answer, made_answer, text_answer, text_to_asked}
use Rattle.music_cli.specs.declared.status.Status.{Status}
use Rattle.music_cli.specs.declared.status.Status.TheVariants.{Done, NoMemory, WriteFault}

-- ---- what a command writes of a scene

module _ (command : Command) (scene : Scene) (text : List ℕ) (writes : Writes command scene text) (sink : Ends) where
  -- it was said
  pub done_said : (result : Status) → IsSaid Done text sink result → IsGiven (AnswersDone command scene) sink result
  done_said result said = record { status = Done; text = text; found_so = (refl, writes); cases = either said.cases; prefix = said.prefix }
    where
      either : ((result ≡ Done) × Wrote text sink × DidNotFail sink) ⊎ ((result ≡ WriteFault) × Failed sink)
          → ((result ≡ Done) × Wrote text sink × DidNotFail sink) ⊎ ((result ≡ WriteFault) × Failed sink) ⊎ ((result ≡ NoMemory) × DidNotFail sink)
      either (inl done) = inl done
      either (inr fault) = inr (inl fault)

  -- it was written whole
  pub done_whole : Wrote text sink → DidNotFail sink → WrotePrefix text sink → IsGiven (AnswersDone command scene) sink Done
  done_whole wrote calm prefix = record { status = Done; text = text; found_so = (refl, writes); cases = inl (refl, wrote, calm); prefix = prefix }

  -- or up to where the sink failed
  pub done_until_fault : Failed sink → WrotePrefix text sink → IsGiven (AnswersDone command scene) sink WriteFault
  done_until_fault failed prefix = record { status = Done; text = text; found_so = (refl, writes); cases = inr (inl (refl, failed)); prefix = prefix }

  -- or up to where memory gave out
  pub done_until_memory : DidNotFail sink → WrotePrefix text sink → IsGiven (AnswersDone command scene) sink NoMemory
  done_until_memory calm prefix = record { status = Done; text = text; found_so = (refl, writes); cases = inr (inr (refl, calm)); prefix = prefix }

-- ---- where memory gave out before anything was written

-- a sink of which nothing was asked
abbrev pub still : Option (List ℕ) → ℕ → Ends
still told faults = record { before = told; after = told; faults_before = faults; faults_after = faults }

given_none : (P : Status → List ℕ → Type 0) (told : Option (List ℕ)) (faults : ℕ) → ((status : Status) × (text : List ℕ) × P status text) → IsGiven P (still told faults) NoMemory
given_none P told faults answer = record { status = answer.0; text = answer.1; found_so = answer.2; cases = inr (inr (refl, refl)); prefix = TookPrefix-nothing told answer.1 }

pub done_no_memory : (command : Command) (scene : Scene) (text : List ℕ) (told : Option (List ℕ)) (faults : ℕ) → Writes command scene text → IsGiven (AnswersDone command scene) (still told faults) NoMemory
done_no_memory command scene text told faults writes = given_none (AnswersDone command scene) told faults (Done, text, (refl, writes))

pub config_no_memory : (command : Command) (config : Config) (told : Option (List ℕ)) (faults : ℕ) → is_lawful_config config ≡ true → IsGiven (AnswersConfig command config) (still told faults) NoMemory
config_no_memory command config told faults lawful = given_none (AnswersConfig command config) told faults (config_answer command config lawful)

pub text_no_memory : (command : Command) (bytes : List ℕ) (told : Option (List ℕ)) (faults : ℕ) → IsGiven (AnswersText command bytes) (still told faults) NoMemory
text_no_memory command bytes told faults = given_none (AnswersText command bytes) told faults (text_answer command bytes)

pub made_no_memory : (number workers : ℕ) (told : Option (List ℕ)) (faults : ℕ) → IsGiven (AnswersMade number workers) (still told faults) NoMemory
made_no_memory number workers told faults = given_none (AnswersMade number workers) told faults (made_answer number workers)

-- ---- what is said of a configuration

-- an answer that was given is one of each kind that it belongs to
given_as : (P Q : Status → List ℕ → Type 0) (sink : Ends) (result : Status) → ((status : Status) (text : List ℕ) → P status text → Q status text) → IsGiven P sink result → IsGiven Q sink result
given_as P Q sink result more given =
    record { status = given.status; text = given.text; found_so = more given.status given.text given.found_so; cases = given.cases; prefix = given.prefix }

described : (command : Command) (config : Config) (scene : Scene) (status : Status) (text : List ℕ) → scene_of config ≡ Ok scene → IsAccepted scene → AnswersDone command scene status text
    → AnswersConfig command config status text
described command config scene status text describes accepted done = rw describes (inr (accepted, done))

-- the accepted scene that it describes is answered
pub given_described : (command : Command) (config : Config) (scene : Scene) (sink : Ends) (result : Status) → scene_of config ≡ Ok scene → IsAccepted scene
    → IsGiven (AnswersDone command scene) sink result → IsGiven (AnswersConfig command config) sink result
given_described command config scene sink result describes accepted given =
    given_as (AnswersDone command scene) (AnswersConfig command config) sink result (λ status text done. described command config scene status text describes accepted done) given

refused : (command : Command) (config : Config) (fault : SetupFault) (status : Status) (text : List ℕ) → IsConfigFault config fault → (fault ≡ setup.Memory → ⊥)
    → AnswersFault (Some config) fault status text → AnswersConfig command config status text
unfolding text_of_fault
refused command config (setup.Text line kind) status text is some answers = absurd is
refused command config (setup.Scene fault) status text is some answers = rw is answers
refused command config (setup.Link place what) status text is some answers = rw is answers
refused command config (setup.Uncovered cycle) status text is some answers =
    rw is.1 (inl (cycle.0.items, is.2, answers.0, answers.1 ∙ ap (λ names. cycle_text names cycle.0.items) (sym (names_of_scene config is.0 is.1))))
refused command config setup.Memory status text is some answers = absurd (some refl)

-- its fault is answered; a cycle is one of its scene
pub given_refused : (command : Command) (config : Config) (fault : SetupFault) (sink : Ends) (result : Status) → IsConfigFault config fault → (fault ≡ setup.Memory → ⊥)
    → IsGiven (AnswersFault (Some config) fault) sink result → IsGiven (AnswersConfig command config) sink result
given_refused command config fault sink result is some given =
    given_as (AnswersFault (Some config) fault) (AnswersConfig command config) sink result (λ status text answers. refused command config fault status text is some answers) given

-- the accepted scene that is made from a number is answered
pub given_made : (number workers : ℕ) (scene : Scene) (sink : Ends) (result : Status) → scene_of (made number) ≡ Ok scene → IsAccepted scene
    → IsGiven (AnswersDone (Load number workers) scene) sink result → IsGiven (AnswersMade number workers) sink result
given_made number workers scene sink result describes accepted given =
    given_as (AnswersDone (Load number workers) scene) (AnswersMade number workers) sink result (λ status text done. (scene, describes, accepted, done)) given

-- what a command that takes input gave to it, it gave to the words
pub given_to_words : (command : Command) (words : List (List ℕ)) (bytes : List ℕ) (sink : Ends) (result : Status) → command_of words ≡ Some command → take_input words ≡ true
    → IsGiven (AnswersText command bytes) sink result → IsGiven (Answers words bytes) sink result
given_to_words command words bytes sink result is takes given =
    let Given : Option Command → Type 0 = λ command. IsGiven (AnswersCommand command bytes) sink result in
    subst Given (sym is)
    (given_as (AnswersText command bytes) (AnswersAsked command bytes) sink result (λ status text answers. text_to_asked command bytes status text (command_takes_input words command is takes) answers) given)
