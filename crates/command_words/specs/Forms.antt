-- The forms of the words as `clap` sees them, and the command that its matches give.
use Rattle.std.specs.Prelude.{◌≡◌, true, false, if◌then◌else◌, List, [], Option, Some, None, bytes_eq, codes}
use Rattle.std.specs.Option.{option_map}
use Rattle.clap.specs.Simple.{App, new_app, new_rule, new_shape, with_rule, with_subcommand}
use Rattle.clap.specs.Walk.{Row, Rule, Text, first_of}
use Rattle.clap.specs.Words.{app_of}
use Rattle.clap.specs.declared.builder.command.Command.{Command as ClapCommand}
use Rattle.clap.specs.declared.builder.command.Command.TheViews.{out-Command}
use Rattle.command_words.specs.Words.{Options, load_command, workers_in}
use Rattle.command_words.specs.declared.command.Command.{Command}
use Rattle.command_words.specs.declared.command.Command.TheVariants.{Check, Plan, Order, Run}

-- ---- forms

-- an option `--NAME TEXT`
abbrev pub option_named : Text → Rule
option_named name = record (new_rule name) { long = Some name }

abbrev pub run_form : App
run_form = with_rule (new_app (codes "run")) (option_named (codes "workers"))

abbrev pub load_form : App
load_form = with_rule (with_rule (new_app (codes "load")) (option_named (codes "number"))) (option_named (codes "workers"))

-- the program before it has subcommands: its words begin behind its name, and there is no help
abbrev pub top_form : App
top_form = record {
  top = record (new_shape (codes "music")) { no_binary_name = true; disable_help_flag = true; disable_help_subcommand = true };
  subs = [];
}

-- a subcommand without options
abbrev pub with_name : App → Text → App
with_name app name = with_subcommand app (new_shape name)

abbrev pub forms : App
forms =
    with_subcommand (with_subcommand (with_name (with_name (with_name top_form
    (codes "check")) (codes "plan")) (codes "order")) run_form.top) load_form.top

-- the command has this form, and nothing in it is global
pub record IsForm (app : App) (command : ClapCommand) : Type 0 where
  pub form : app_of command ≡ app
  pub local : (out-Command command).has_globals ≡ false

-- ---- what was matched

-- the texts that are given to the options
abbrev pub options_in : List Row → Options
options_in rows = record { workers = first_of (codes "workers") rows; number = first_of (codes "number") rows }

-- the command of a subcommand and what is given to its options
abbrev pub command_matched : Text → Options → Option Command
command_matched name options =
    if bytes_eq name (codes "check") then Some Check
    else if bytes_eq name (codes "plan") then Some Plan
    else if bytes_eq name (codes "order") then Some Order
    else if bytes_eq name (codes "run") then option_map (λ workers. Run workers) (workers_in options)
    else if bytes_eq name (codes "load") then load_command options
    else None

abbrev pub command_in : Option (Text × List Row) → Option Command
command_in None = None
command_in (Some matched) = command_matched matched.0 (options_in matched.1)
