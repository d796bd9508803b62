use Rattle.std.proofs.Common.{◌≡◌, length}
use Rattle.port_match.specs.Covering.{from_end_above}
use Rattle.port_match.proofs.covering.from_end_above.Given as goal

abbrev pub invariant-loop-first : goal.invariant-loop-first
invariant-loop-first l = from_end_above l.index l.rest ≡ from_end_above l.index l.intervals

abbrev pub decreases-loop-first : goal.decreases-loop-first
decreases-loop-first l = length l.rest
