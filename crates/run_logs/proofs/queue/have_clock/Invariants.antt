use Rattle.std.proofs.Common.{take}
use Rattle.run_logs.specs.Merging.{HaveClock}
use Rattle.run_logs.proofs.queue.have_clock.Given as goal

abbrev pub invariant-loop-row : goal.invariant-loop-row
invariant-loop-row l = HaveClock l.clock (take l.row-index l.rows)
