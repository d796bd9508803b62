use Rattle.std.proofs.Common.{[], ◌∷◌, arith, length-append}
use Rattle.text_words.specs.Words.{declarations, words}
use Rattle.text_words.proofs.Turns.{in_turn-next}
use Rattle.app_scripts.specs.Rules.{rule_beside}
use Rattle.app_scripts.proofs.reading.read_rules.Goals as goal

pub loop-piece-preserved : goal.loop-piece-preserved
loop-piece-preserved c = record {
  read = rw c.in_ok-push.ensures.ok
      (in_turn-next (rule_beside c.args.ports.now c.args.tick c.runs_for-lasts.result) c.loop-piece.rules (words c.in-Some.piece.now) c.in_ok-rule.rule _ (declarations c.in-Some.others.now) _
      c.in-Some.ensures.piece (rw (c.as_slice.ensures, c.tick.view_is) at c.in_ok-rule.ensures.rule) c.loop-piece.invariant.read);
  few = rw c.in_ok-push.ensures.ok (omega (arith, rw c.as_slice.ensures at c.in_ok-rule.ensures.few, length-append c.loop-piece.rules (c.in_ok-rule.rule ∷ [])));
}
