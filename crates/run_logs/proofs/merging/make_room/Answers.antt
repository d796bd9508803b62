use Rattle.std.proofs.Common.{◌≡◌, ◌<◌, ◌≤◌, ap, get_or, length, arith}
use Rattle.run_logs.specs.Merging.{QueuedRows}
use Rattle.run_logs.proofs.Held.{one_has_room}
use Rattle.run_logs.proofs.merging.make_room.Goals as goal

pub loop-queue-preserved : goal.loop-queue-preserved
loop-queue-preserved c =
    let queues = c.loop-queue.queue-items in
    let done = c.loop-queue.queue-index in
    let within : done < length queues = omega (arith, c.loop-queue-test.true, c.loop-queue.auto.queue-items) in
    let same : c.reserve.new.self.rows ≡ (get_or queues done c.queue-item.result).rows = ap (λ (q : QueuedRows). q.rows) c.in_ok-reserve.ensures.ok in
    let room : 16 ≤ c.reserve.new.self.spare = omega (arith, ap (λ (q : QueuedRows). q.spare) c.in_ok-reserve.ensures.ok) in
    one_has_room 16 done _ queues c.reserve.new.self c.queue-item.result within same room c.loop-queue.invariant
