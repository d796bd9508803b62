-- Which words take input, and which `load` a scene that is made.
use Rattle.std.proofs.Common.{◌≡◌, ◌∙◌, ℕ, Bool, true, false, List, Option, Some, None, refl, sym, ap, subst}
use Rattle.std.specs.Prelude.{is_some}
use Rattle.std.specs.Option.{option_map_or}
use Rattle.command_words.specs.Words.{command_of}
use Rattle.command_words.specs.declared.command.Command.{Command}
use Rattle.command_words.specs.declared.command.Command.TheVariants.{Check, Plan, Order, Run, Load}
use Rattle.music_cli.specs.Words.{are_accepted, take_input, takes_input}
use Rattle.music_cli.specs.Answers.{Answers, AnswersCommand, AnswersMade}
use Rattle.music_cli.specs.declared.status.Status.{Status}

-- each command but `load` takes input
pub takes_unless_load : (command : Command) → ((number workers : ℕ) → command ≡ Load number workers → ⊥) → takes_input command ≡ true
takes_unless_load Check other = refl
takes_unless_load Plan other = refl
takes_unless_load Order other = refl
takes_unless_load (Run workers) other = refl
takes_unless_load (Load number workers) other = absurd (other number workers refl)

pub words_take_input : (words : List (List ℕ)) (command : Command) → command_of words ≡ Some command → takes_input command ≡ true → take_input words ≡ true
words_take_input words command is takes = ap (λ (found : Option Command). option_map_or takes_input found false) is ∙ takes

pub command_takes_input : (words : List (List ℕ)) (command : Command) → command_of words ≡ Some command → take_input words ≡ true → takes_input command ≡ true
command_takes_input words command is takes = sym (ap (λ (found : Option Command). option_map_or takes_input found false) is) ∙ takes

some_takes : (command : Option Command) → option_map_or takes_input command false ≡ true → is_some command ≡ true
some_takes None takes = absurd cc
some_takes (Some command) takes = refl

-- words that take input are accepted
pub input_accepted : (words : List (List ℕ)) → take_input words ≡ true → are_accepted words ≡ true
input_accepted words takes = some_takes (command_of words) takes

-- those of `load` are accepted, and take none
pub load_accepted : (words : List (List ℕ)) (number workers : ℕ) → command_of words ≡ Some (Load number workers) → are_accepted words ≡ true
load_accepted words number workers is = ap is_some is

pub load_takes_none : (words : List (List ℕ)) (number workers : ℕ) → command_of words ≡ Some (Load number workers) → take_input words ≡ false
load_takes_none words number workers is = ap (λ (command : Option Command). option_map_or takes_input command false) is

-- what `load` answers, whatever the bytes are
pub words_made : (words : List (List ℕ)) (bytes : List ℕ) (number workers : ℕ) (status : Status) (text : List ℕ) → command_of words ≡ Some (Load number workers)
    → AnswersMade number workers status text → Answers words bytes status text
words_made words bytes number workers status text is made = subst (λ (command : Option Command). AnswersCommand command bytes status text) (sym is) made

-- words are accepted or refused, and take input or not
pub not_both_so : (takes : Bool) → takes ≡ true → takes ≡ false → ⊥
not_both_so takes so not_so = absurd cc
