use Rattle.std.proofs.Common.{◌≡◌}
use Rattle.port_inbox.proofs.cont_tests.filled.Given as goal

abbrev pub invariant-loop-k : goal.invariant-loop-k
invariant-loop-k l = l.inbox.admitted ≡ l.k
