use Rattle.run_logs.proofs.Held.{HaveRoom}
use Rattle.run_logs.proofs.merging.make_room.Given as goal

abbrev pub invariant-loop-queue : goal.invariant-loop-queue
invariant-loop-queue l = HaveRoom 16 l.queue-index l.initial.queue-items l.queue-items
