-- Where a command is done, the scene is live.
use Rattle.std.proofs.Common.{◌≡◌, ℕ, ◌≤◌, List, Option, Some, None, true, false, Ok, Err, refl, sym, ap, ◌∙◌, inl, inr, arith}
use Rattle.std.specs.Prelude.{Result, IfOk}
use Rattle.std.specs.Option.{option_map_or}
use Rattle.config_text.specs.declared.config.Config.{Config}
use Rattle.config_text.proofs.SpelledLaws.{spelled_lawful}
use Rattle.scene_model.specs.Faults.{IsFaultless}
use Rattle.scene_model.specs.Waits.{IsAccepted}
use Rattle.scene_model.specs.declared.scene.Scene.{Scene}
use Rattle.scene_model.proofs.AcceptedOrReportable.{accepted_is_live}
use Rattle.music_setup.specs.Scenes.{scene_of}
use Rattle.music_setup.specs.Setups.{SpellsScene}
use Rattle.music_setup.specs.declared.fault.SetupFault.{SetupFault}
use Rattle.music_setup.specs.declared.fault.SetupFault.TheVariants as setup
use Rattle.scene_make.specs.Made.{made}
use Rattle.command_words.specs.Words.{command_of}
use Rattle.command_words.specs.declared.command.Command.{Command}
use Rattle.music_cli.specs.Words.{takes_input}
use Rattle.music_cli.specs.Answers.{AnswersCommand, AnswersOf, AnswersScene, AnswersText, HasLiveLimits, MakesLive, number_of, status_of}
use Rattle.music_cli.specs.Clauses.{Ends, read_part, Ended, IsLiveWhenDone}
use Rattle.music_cli.specs.declared.status.Status.{Status}
use Rattle.music_cli.proofs.SomeAnswers.{asked_to_text, lawful_is_faultless}
use Rattle.music_cli.proofs.Endings.{has_answer}

no_fault_done : (fault : SetupFault) → number_of (status_of fault) ≡ 0 → ⊥
no_fault_done (setup.Text line kind) done = omega (arith, done)
no_fault_done (setup.Scene fault) done = omega (arith, done)
no_fault_done (setup.Link place what) done = omega (arith, done)
no_fault_done (setup.Uncovered cycle) done = omega (arith, done)
no_fault_done setup.Memory done = omega (arith, done)

of_done : (command : Command) (scene : Scene) (status : Status) (text : List ℕ) → IsFaultless scene → AnswersOf command scene status text → number_of status ≡ 0 → HasLiveLimits scene
of_done command scene status text faultless answers done = elim answers [
  | inl uncovered ↦ let five : number_of status ≡ 5 = ap number_of uncovered.2 in absurd (omega (arith, five, done))
  | inr is ↦ accepted_is_live scene faultless is.0
]

scene_live : (command : Command) (config : Config) (found : Result Scene SetupFault) (status : Status) (text : List ℕ) → IfOk found IsFaultless
    → AnswersScene command config found status text → number_of status ≡ 0 → (scene : Scene) × (found ≡ Ok scene) × HasLiveLimits scene
scene_live command config (Ok scene) status text faultless answers done = (scene, refl, of_done command scene status text faultless answers done)
scene_live command config (Err fault) status text faultless answers done =
    let same : number_of status ≡ number_of (status_of fault) = ap number_of answers.0 in
    absurd (no_fault_done fault (sym same ∙ done))

-- the bytes spell a configuration whose scene has such limits
abbrev SpellsLive : List ℕ → Type 0
SpellsLive bytes = (scene : Scene) × SpellsScene bytes scene × HasLiveLimits scene

text_live : (command : Command) (bytes : List ℕ) (status : Status) (text : List ℕ) → AnswersText command bytes status text → number_of status ≡ 0 → SpellsLive bytes
text_live command bytes status text answers done = elim answers [
  | inl faulty ↦ let three : number_of status ≡ 3 = ap number_of faulty.3.0 in absurd (omega (arith, three, done))
  | inr right ↦
      let live = scene_live command right.0 (scene_of right.0) status text (lawful_is_faultless right.0 (spelled_lawful bytes right.0 right.1)) right.2 done in
      (live.0, (right.0, right.1, live.1), live.2)
]

command_live : (command : Option Command) (bytes : List ℕ) (status : Status) (text : List ℕ) → option_map_or takes_input command false ≡ true → AnswersCommand command bytes status text → number_of status ≡ 0
    → SpellsLive bytes
command_live None bytes status text takes answers done = absurd cc
command_live (Some command) bytes status text takes answers done = text_live command bytes status text (asked_to_text command bytes status text takes answers) done

pub is_live : (words : List (List ℕ)) (source sink : Ends) (status : Status) → Ended words source sink status → IsLiveWhenDone words source (number_of status)
is_live words source sink status ended all takes is done =
    let small : number_of status ≤ 5 = omega (arith, done) in
    let answer = has_answer words source sink status ended all is small in
    let same : number_of status ≡ number_of answer.0 = answer.2 in
    command_live (command_of words) (read_part all) answer.0 answer.1 takes answer.3 (sym same ∙ done)

-- an accepted scene that is made from a number is live
pub made_live : (number : ℕ) (scene : Scene) → scene_of (made number) ≡ Ok scene → IsFaultless scene → IsAccepted scene → MakesLive number
made_live number scene makes faultless accepted = (scene, makes, accepted_is_live scene faultless accepted)
