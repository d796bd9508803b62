use Rattle.config_text.proofs.FirstArrow.{IsBeforeArrow}
use Rattle.config_text.proofs.arrows.split_at_arrow.Given as goal

abbrev pub invariant-loop-i : goal.invariant-loop-i
invariant-loop-i l = IsBeforeArrow l.bytes l.i
