use Rattle.std.proofs.Common.{◌≡◌, take}
use Rattle.run_logs.specs.Merging.{held_by, least_front}
use Rattle.run_logs.proofs.merging.least_clock.Given as goal

abbrev pub invariant-loop-queue : goal.invariant-loop-queue
invariant-loop-queue l = l.bound ≡ least_front l.least (held_by (take l.queue-index l.queues))
