use Rattle.config_text.proofs.Comments.{IsBeforeComment}
use Rattle.config_text.proofs.parts.before_comment.Given as goal

abbrev pub invariant-loop-i : goal.invariant-loop-i
invariant-loop-i l = IsBeforeComment l.line l.even l.i
