use Rattle.std.proofs.Common.{◌-◌, ◌^◌}
use Rattle.step_core.proofs.NextClocks.{IsNextSoFar}
use Rattle.step_core.proofs.releasing.next_clock.Given as goal

abbrev pub invariant-loop-machine : goal.invariant-loop-machine
invariant-loop-machine l = IsNextSoFar l.machines l.machine-index (2 ^ 64 - 1) l.least
