use Rattle.std.proofs.Common.{◌≡◌, length}
use Rattle.port_match.proofs.Intervals.{covered}
use Rattle.port_match.proofs.covering.covers.Given as goal

abbrev pub invariant-loop-input : goal.invariant-loop-input
invariant-loop-input l = covered l.rest l.left ≡ covered l.outputs l.inputs

abbrev pub decreases-loop-input : goal.decreases-loop-input
decreases-loop-input l = length l.left
