use Rattle.port_inbox.specs.Due.{AreShort}
use Rattle.port_inbox.proofs.message_tests.messages.Given as goal

abbrev pub invariant-loop-time : goal.invariant-loop-time
invariant-loop-time l = AreShort l.items.items
