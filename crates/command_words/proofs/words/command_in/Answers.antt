use Rattle.std.proofs.Common.{◌≡◌, ◌∙◌, List, Option, option_map, ap, sym, Some, None}
use Rattle.std.specs.Prelude.{Box}
use Rattle.std.specs.Box.{box_value}
use Rattle.clap.specs.Simple.{subcommand_rows}
use Rattle.clap.specs.Walk.{Row, Text, rows_of}
use Rattle.clap.specs.Matches.{found_of}
use Rattle.clap.specs.declared.parser.matches.ArgMatches.TheViews.{out-ArgMatches, out-SubCommand}
use Rattle.clap.specs.declared.parser.matches.SubCommand.{SubCommand}
use Rattle.command_words.specs.Forms.{command_in}
use Rattle.command_words.proofs.Somes.{some-same, some≢none}
use Rattle.command_words.proofs.words.command_in.Goals as goal

module _ {Z : Type 0} where
  -- a subcommand whose name and rows are known
  both_are : (sub : Option (Box SubCommand Z)) (name : Text) (rows : List Row) → Some name ≡ option_map (λ b. (out-SubCommand (box_value b)).name.now) sub
      → Some rows ≡ option_map (λ p. p.1) (subcommand_rows sub) → subcommand_rows sub ≡ Some (name, rows)
  both_are None name rows e f = absurd (some≢none name e)
  both_are (Some b) name rows e f = λ i. Some (some-same _ _ (sym e) i, some-same _ _ (sym f) i)

pub returns-in-load : goal.returns-in-load
returns-in-load c =
    let options = rows_of (found_of c.in_ok-name.options.now) in
    let is = both_are (out-ArgMatches c.args.matches.now).subcommand c.in_ok-name.name.now options c.in_ok-name.ensures.name c.in_ok-name.ensures.rows in
    c.load_in.ensures ∙ sym (ap command_in is ∙ ap (λ name. command_in (Some (name, options))) c.in-load.is)
