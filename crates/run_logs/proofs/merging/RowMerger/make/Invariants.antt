use Rattle.std.proofs.Common.{◌≡◌, [], replicate}
use Rattle.run_logs.specs.Merging.{held_by}
use Rattle.run_logs.proofs.merging.RowMerger.make.Given as goal

abbrev pub invariant-loop : goal.invariant-loop
invariant-loop l = held_by l.queues.items ≡ replicate l.counter []
