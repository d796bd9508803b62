use Rattle.std.proofs.Common.{length}
use Rattle.config_text.proofs.FrontToBack.{IsReadTo}
use Rattle.config_text.proofs.reading.read_config.Given as goal

abbrev pub invariant-loop-rest : goal.invariant-loop-rest
invariant-loop-rest l = IsReadTo l.bytes l.rest l.line l.config

abbrev pub decreases-loop-rest : goal.decreases-loop-rest
decreases-loop-rest l = length l.rest
