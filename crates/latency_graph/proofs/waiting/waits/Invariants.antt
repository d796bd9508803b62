use Rattle.std.proofs.Common.{◌≡◌}
use Rattle.latency_graph.proofs.WaitLists.{waits_below}
use Rattle.latency_graph.proofs.waiting.waits.Given as goal

abbrev pub invariant-loop-c : goal.invariant-loop-c
invariant-loop-c l = l.waits.items ≡ waits_below l.scene l.limits l.c
