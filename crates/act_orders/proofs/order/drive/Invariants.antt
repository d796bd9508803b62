use Rattle.std.proofs.Common.{◌≡◌, ◌+◌, ◌*◌, List}
use Rattle.scene_model.proofs.Finish.{left_of}
use Rattle.scene_model.specs.declared.act.Act.{Act}
use Rattle.act_orders.specs.Ledgers.{counts_in}
use Rattle.act_orders.proofs.Orders.{WroteSoFar}
use Rattle.act_orders.proofs.order.drive.Given as goal

abbrev pub invariant-loop-act : goal.invariant-loop-act
invariant-loop-act g l = record {
  so_far : WroteSoFar l.scene l.initial.ledger.limits.items l.ledger l.page.items (g.K.Sink.taken l.initial.sink) (g.K.Sink.taken l.sink);
  stays : g.K.Sink.faults l.sink ≡ g.K.Sink.faults l.initial.sink;
}

-- each act takes one from what is left, and has two applications wait at most
abbrev pub decreases-loop-act : goal.decreases-loop-act
decreases-loop-act g l = 3 * left_of l.scene (counts_in l.ledger) + l.waiting
