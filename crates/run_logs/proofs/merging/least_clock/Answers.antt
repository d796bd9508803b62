use Rattle.std.proofs.Common.{◌∙◌, ap, sym}
use Rattle.run_logs.specs.Merging.{first_clock, lower_of}
use Rattle.run_logs.proofs.Nexts.{least_of_more}
use Rattle.run_logs.proofs.merging.least_clock.Goals as goal

pub loop-queue-preserved : goal.loop-queue-preserved
loop-queue-preserved c =
    c.lower-bound.ensures ∙ ap (λ bound. lower_of bound (first_clock c.queue-item.result.rows)) c.loop-queue.invariant
    ∙ sym (least_of_more c.args.least c.args.queues.now c.loop-queue.queue-index c.queue-item.result c.loop-queue-test.true c.queue-item.is)
