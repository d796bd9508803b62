use Rattle.std.proofs.Common.{◌∙◌, sym, arith}
use Rattle.std.proofs.lemmas.Bool.{lt-ltb}
use Rattle.music_base.proofs.Counting.{multiple_before}
use Rattle.app_turn.proofs.needs.multiples_before.Goals as goal

pub returns-then-before-sent-clause-first : goal.returns-then-before-sent-clause-first
returns-then-before-sent-clause-first c = λ k lt. multiple_before k c.args.tick c.args.end _ c.requires c.div_ceil-before.ensures

pub returns-else-before-sent-clause-first : goal.returns-else-before-sent-clause-first
returns-else-before-sent-clause-first c = λ k lt.
    multiple_before k c.args.tick c.args.end _ c.requires c.div_ceil-before.ensures ∙ lt-ltb k _ (omega arith) ∙ sym (lt-ltb k c.args.sent lt)
