-- Which words are accepted, and which take input.
use Rattle.std.specs.Prelude.{ℕ, Bool, true, false, List, is_some}
use Rattle.std.specs.Option.{option_map_or}
use Rattle.command_words.specs.Words.{command_of}
use Rattle.command_words.specs.declared.command.Command.{Command}
use Rattle.command_words.specs.declared.command.Command.TheVariants.{Load}

-- the words are accepted: they give a command
abbrev pub are_accepted : List (List ℕ) → Bool
are_accepted words = is_some (command_of words)

-- each command but `load` takes input
abbrev pub takes_input : Command → Bool
takes_input (Load number workers) = false
takes_input _ = true

-- the words are accepted, and their command takes input
abbrev pub take_input : List (List ℕ) → Bool
take_input words = option_map_or takes_input (command_of words) false
