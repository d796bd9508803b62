use Rattle.run_logs.proofs.Held.{hold_none}
use Rattle.run_logs.proofs.merging.RowMerger.make.Goals as goal

pub invariant_of-result : goal.invariant_of-result
invariant_of-result c = hold_none c.loop.counter c.loop.queues.items c.loop.invariant
