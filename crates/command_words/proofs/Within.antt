-- The numbers of the commands that words give are within their limits.
use Rattle.std.proofs.Common.{◌≡◌, ◌≤◌, ℕ, Bool, true, false, cond, List, [], ◌∷◌, Option, Some, None, is_some, refl, arith, codes, ◌&&◌, nat_le}
use Rattle.std.specs.Prelude.{IfSome, bytes_eq}
use Rattle.std.specs.Option.{option_and_then, option_map, option_map_or}
use Rattle.std.specs.Str.Parse.{digits_value}
use Rattle.std.proofs.lemmas.Bool.{leb-true}
use Rattle.music_base.specs.Counts.{is_short_count}
use Rattle.command_words.specs.Commands.{AreWorkers, IsWithinLimits}
use Rattle.command_words.specs.Words.{Options, alone, command_of, load_command, number_within, options_of, run_command, workers_in}
use Rattle.command_words.specs.declared.command.Command.{Command}
use Rattle.command_words.specs.declared.command.Command.TheVariants.{Check, Plan, Order, Run, Load}
use Rattle.command_words.specs.declared.limits.TheConstants.{GREATEST_NUMBER, LEAST_WORKERS, MOST_DIGITS, MOST_WORKERS}

-- a command, where there is one, is within its limits
abbrev pub AllWithin : Option Command → Type 0
AllWithin command = IfSome command IsWithinLimits

-- ---- one of two steps, and one step after another

within-cond : (b : Bool) (x y : Option Command) → AllWithin x → AllWithin y → AllWithin (cond b x y)
within-cond true x y within_x within_y = within_x
within-cond false x y within_x within_y = within_y

within-and_then : (next : Options → Option Command) → ((options : Options) → AllWithin (next options)) → (o : Option Options) → AllWithin (option_and_then next o)
within-and_then next each None = tt
within-and_then next each (Some options) = each options

-- ---- numbers

number-within : (least most : ℕ) (text : List ℕ) → IfSome (number_within least most text) (λ n. (least ≤ n) × (n ≤ most))
number-within least most text =
    go (is_short_count MOST_DIGITS text) (nat_le least (digits_value 10 text)) (nat_le (digits_value 10 text) most) refl refl
  where
    go : (short above below : Bool) → nat_le least (digits_value 10 text) ≡ above → nat_le (digits_value 10 text) most ≡ below
        → IfSome (cond (short && above && below) (Some (digits_value 10 text)) None) (λ n. (least ≤ n) × (n ≤ most))
    go true true true is_above is_below = (leb-true _ _ is_above, leb-true _ _ is_below)
    go true true false is_above is_below = tt
    go true false below is_above is_below = tt
    go false above below is_above is_below = tt

workers-within : (options : Options) → IfSome (workers_in options) AreWorkers
workers-within options = go options.workers
  where
    go : (given : Option (List ℕ)) → IfSome (option_map_or (number_within LEAST_WORKERS MOST_WORKERS) given (Some 1)) AreWorkers
    go None = (omega arith, omega arith)
    go (Some text) = number-within LEAST_WORKERS MOST_WORKERS text

-- ---- commands

run-within : (options : Options) → IfSome (run_command options) IsWithinLimits
run-within options = within-cond (is_some options.number) None (option_map (λ workers. Run workers) (workers_in options)) tt (go (workers_in options) (workers-within options))
  where
    go : (workers : Option ℕ) → IfSome workers AreWorkers → IfSome (option_map (λ workers. Run workers) workers) IsWithinLimits
    go None within = tt
    go (Some n) within = within

load-within : (options : Options) → IfSome (load_command options) IsWithinLimits
load-within options = by_number options.number
  where
    by_both : (number : ℕ) → number ≤ GREATEST_NUMBER → (workers : Option ℕ) → IfSome workers AreWorkers
        → IfSome (option_map (λ workers. Load number workers) workers) IsWithinLimits
    by_both number few None within = tt
    by_both number few (Some n) within = (few, within)

    by_value : (value : Option ℕ) → IfSome value (λ n. (0 ≤ n) × (n ≤ GREATEST_NUMBER))
        → IfSome (option_and_then (λ number. option_map (λ workers. Load number workers) (workers_in options)) value) IsWithinLimits
    by_value None within = tt
    by_value (Some number) within = by_both number within.1 (workers_in options) (workers-within options)

    by_number : (given : Option (List ℕ))
        → IfSome (option_and_then (λ number. option_map (λ workers. Load number workers) (workers_in options)) (option_and_then (number_within 0 GREATEST_NUMBER) given)) IsWithinLimits
    by_number None = tt
    by_number (Some text) = by_value (number_within 0 GREATEST_NUMBER text) (number-within 0 GREATEST_NUMBER text)

alone-within : (command : Command) (words : List (List ℕ)) → IsWithinLimits command → IfSome (alone command words) IsWithinLimits
alone-within command [] within = within
alone-within command (word ∷ words) within = tt

-- the command of words whose name is none of those before it
abbrev or_load : List ℕ → List (List ℕ) → Option Command
or_load name words = cond (bytes_eq name (codes "load")) (option_and_then load_command (options_of words)) None

abbrev or_run : List ℕ → List (List ℕ) → Option Command
or_run name words = cond (bytes_eq name (codes "run")) (option_and_then run_command (options_of words)) (or_load name words)

abbrev or_order : List ℕ → List (List ℕ) → Option Command
or_order name words = cond (bytes_eq name (codes "order")) (alone Order words) (or_run name words)

abbrev or_plan : List ℕ → List (List ℕ) → Option Command
or_plan name words = cond (bytes_eq name (codes "plan")) (alone Plan words) (or_order name words)

pub command-within : (words : List (List ℕ)) → AllWithin (command_of words)
command-within [] = tt
command-within (name ∷ words) =
    let load : AllWithin (or_load name words) =
    within-cond (bytes_eq name (codes "load")) (option_and_then load_command (options_of words)) None (within-and_then load_command load-within (options_of words)) tt in
    let run : AllWithin (or_run name words) =
    within-cond (bytes_eq name (codes "run")) (option_and_then run_command (options_of words)) (or_load name words) (within-and_then run_command run-within (options_of words)) load in
    let order : AllWithin (or_order name words) =
    within-cond (bytes_eq name (codes "order")) (alone Order words) (or_run name words) (alone-within Order words tt) run in
    let plan : AllWithin (or_plan name words) =
    within-cond (bytes_eq name (codes "plan")) (alone Plan words) (or_order name words) (alone-within Plan words tt) order in
    within-cond (bytes_eq name (codes "check")) (alone Check words) (or_plan name words) (alone-within Check words tt) plan
