use Rattle.std.proofs.Common.{slice_index}
use Rattle.tick_plan.specs.Heights.{IsRising, gap_of}
use Rattle.tick_plan.proofs.raising.raise_all.Given as goal

abbrev pub ghost-raise_each : goal.ghost-raise_each
ghost-raise_each g a = g.starts

abbrev pub invariant-loop : goal.invariant-loop
invariant-loop g l = IsRising l.applications l.waits (slice_index g.starts) l.heights

abbrev pub decreases-loop : goal.decreases-loop
decreases-loop g l = gap_of l.heights
