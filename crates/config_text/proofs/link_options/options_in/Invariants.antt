use Rattle.std.proofs.Common.{◌≡◌, length}
use Rattle.text_words.specs.Words.{words}
use Rattle.config_text.specs.Options.{options_in, options_in_turn}
use Rattle.config_text.proofs.link_options.options_in.Given as goal

abbrev pub invariant-loop-word : goal.invariant-loop-word
invariant-loop-word l = options_in_turn l.options (words l.rest) ≡ options_in l.text

abbrev pub decreases-loop-word : goal.decreases-loop-word
decreases-loop-word l = length l.rest
