-- What is left reads on as the whole text does, beside the rules that were read.
use Rattle.std.proofs.Common.{◌≡◌, ◌≤◌, [], length}
use Rattle.text_words.specs.InTurn.{in_turn}
use Rattle.text_words.specs.Words.{declarations}
use Rattle.scene_model.specs.Limits.{most_rules}
use Rattle.app_scripts.specs.Rules.{rule_beside}
use Rattle.app_scripts.proofs.reading.read_rules.Given as goal

abbrev pub invariant-loop-piece : goal.invariant-loop-piece
invariant-loop-piece l = record {
  read : in_turn (rule_beside l.ports l.fn.tick l.lasts) l.rules (declarations l.rest) ≡ in_turn (rule_beside l.ports l.fn.tick l.lasts) [] (declarations l.text);
  few : length l.rules ≤ most_rules;
}

abbrev pub decreases-loop-piece : goal.decreases-loop-piece
decreases-loop-piece l = length l.rest
