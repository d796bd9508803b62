use Rattle.std.proofs.Common.{◌≡◌, length, take}
use Rattle.std.specs.List.{flat_map}
use Rattle.run_logs.specs.Merging.{held_by}
use Rattle.run_logs.proofs.merging.count_rows.Given as goal

abbrev pub invariant-loop-queue : goal.invariant-loop-queue
invariant-loop-queue l = l.count ≡ length (flat_map (λ rows. rows) (held_by (take l.queue-index l.queues)))
