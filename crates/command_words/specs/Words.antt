-- The words behind the program's name, each as the list of its bytes, and the command that they give.
use Rattle.std.specs.Prelude.{ℕ, Bool, ◌&&◌, ◌||◌, nat_eq, nat_le, if◌then◌else◌, List, [], ◌∷◌, Option, Some, None, is_some, bytes_eq, codes, length, drop, map, String, string_bytes}
use Rattle.std.specs.List.{starts_with}
use Rattle.std.specs.Option.{option_and_then, option_map, option_map_or}
use Rattle.std.specs.Str.Parse.{digits_value}
use Rattle.music_base.specs.Counts.{is_short_count}
use Rattle.command_words.specs.declared.command.Command.{Command}
use Rattle.command_words.specs.declared.command.Command.TheVariants.{Check, Plan, Order, Run, Load}
use Rattle.command_words.specs.declared.limits.TheConstants.{GREATEST_NUMBER, LEAST_WORKERS, MOST_DIGITS, MOST_WORKERS}

-- the bytes of each word
abbrev pub texts : {A : Type 0} → List (String A) → List (List ℕ)
texts words = map string_bytes words

-- ---- numbers

-- the number that one to four decimal digits write, where it is neither below `least` nor above `most`
abbrev pub number_within : ℕ → ℕ → List ℕ → Option ℕ
number_within least most text =
    if is_short_count MOST_DIGITS text && nat_le least (digits_value 10 text) && nat_le (digits_value 10 text) most
    then Some (digits_value 10 text) else None

-- ---- options

-- the texts that are given to `--workers` and `--number`, where these options stand
pub record Options : Type 0 where
  pub workers : Option (List ℕ)
  pub number : Option (List ℕ)

-- no option stands
abbrev pub no_options : Options
no_options = record { workers = None; number = None }

-- one option more, which may not stand yet
abbrev pub with_workers : Options → List ℕ → Option Options
with_workers options text =
    if is_some options.workers then None else Some (record { workers = Some text; number = options.number })

abbrev pub with_number : Options → List ℕ → Option Options
with_number options text =
    if is_some options.number then None else Some (record { workers = options.workers; number = Some text })

-- one option more, as the two words `--NAME TEXT`
abbrev pub with_two_words : Options → List ℕ → List ℕ → Option Options
with_two_words options name text =
    if bytes_eq name (codes "--workers") then with_workers options text
    else if bytes_eq name (codes "--number") then with_number options text
    else None

-- what a word has behind what it begins with
abbrev pub text_behind : List ℕ → List ℕ → List ℕ
text_behind front word = drop (length front) word

-- one option more, as the one word `--NAME=TEXT`
abbrev pub with_one_word : Options → List ℕ → Option Options
with_one_word options word =
    if starts_with nat_eq word (codes "--workers=") then with_workers options (text_behind (codes "--workers=") word)
    else if starts_with nat_eq word (codes "--number=") then with_number options (text_behind (codes "--number=") word)
    else None

abbrev pub is_option_name : List ℕ → Bool
is_option_name word = bytes_eq word (codes "--workers") || bytes_eq word (codes "--number")

-- the options that words add, each in one word or in two, in any order, and none twice
abbrev pub options_from : List (List ℕ) → Options → Option Options
options_from [] options = Some options
options_from (word ∷ []) options = with_one_word options word
options_from (word ∷ next ∷ words) options =
    if is_option_name word then option_and_then (options_from words) (with_two_words options word next)
    else option_and_then (options_from (next ∷ words)) (with_one_word options word)

abbrev pub options_of : List (List ℕ) → Option Options
options_of words = options_from words no_options

-- ---- commands

-- how many workers are asked for: one where the option does not stand
abbrev pub workers_in : Options → Option ℕ
workers_in options = option_map_or (number_within LEAST_WORKERS MOST_WORKERS) options.workers (Some 1)

-- the number that is given, which has no default
abbrev pub number_in : Options → Option ℕ
number_in options = option_and_then (number_within 0 GREATEST_NUMBER) options.number

-- `run` takes no number
abbrev pub run_command : Options → Option Command
run_command options = if is_some options.number then None else option_map (λ workers. Run workers) (workers_in options)

abbrev pub load_command : Options → Option Command
load_command options =
    option_and_then (λ number. option_map (λ workers. Load number workers) (workers_in options)) (number_in options)

-- a command that takes no further words
abbrev pub alone : Command → List (List ℕ) → Option Command
alone command [] = Some command
alone command (word ∷ words) = None

-- the command of a name and the words behind it
abbrev pub command_named : List ℕ → List (List ℕ) → Option Command
command_named name words =
    if bytes_eq name (codes "check") then alone Check words
    else if bytes_eq name (codes "plan") then alone Plan words
    else if bytes_eq name (codes "order") then alone Order words
    else if bytes_eq name (codes "run") then option_and_then run_command (options_of words)
    else if bytes_eq name (codes "load") then option_and_then load_command (options_of words)
    else None

-- the command that the words give, and none where they are refused
abbrev pub command_of : List (List ℕ) → Option Command
command_of [] = None
command_of (name ∷ words) = command_named name words
