use Rattle.std.proofs.Common.{arith}
use Rattle.config_text.proofs.Ends.{cr_dropped, no_cr}
use Rattle.config_text.proofs.parts.without_cr.Goals as goal
use Rattle.config_text.proofs.parts.without_cr.Goals.{else-len-gt0-via-then-len-gt0+else-line-len-eq13, else-len-gt0-via-else-len-gt0}

pub returns-then-line-len-eq13 : goal.returns-then-line-len-eq13
returns-then-line-len-eq13 c = cr_dropped c.args.line.now c.if-len-gt0.true c.if-line-len-eq13.true

pub returns-else-len-gt0 : goal.returns-else-len-gt0
returns-else-len-gt0 c =
    no_cr c.args.line.now (λ some is. elim c.else-len-gt0.branch [
      | else-len-gt0-via-then-len-gt0+else-line-len-eq13 w ↦ w.if-line-len-eq13.false is
      | else-len-gt0-via-else-len-gt0 w ↦ omega arith
    ])
