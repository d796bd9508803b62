use Rattle.std.proofs.Common.{◌≡◌, length}
use Rattle.text_words.specs.Words.{words}
use Rattle.port_table.specs.Options.{options_in, no_options}
use Rattle.port_table.proofs.options.options_in.Given as goal

abbrev pub invariant-loop-word : goal.invariant-loop-word
invariant-loop-word l = options_in l.direction l.kind l.options (words l.rest) ≡ options_in l.direction l.kind no_options (words l.text)

abbrev pub decreases-loop-word : goal.decreases-loop-word
decreases-loop-word l = length l.rest
