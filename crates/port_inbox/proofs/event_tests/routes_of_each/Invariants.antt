use Rattle.std.proofs.Common.{◌-◌, ◌≤◌, length}
use Rattle.port_inbox.proofs.event_tests.routes_of_each.Given as goal

abbrev pub invariant-each : goal.invariant-each
invariant-each l = length l.all.items ≤ l.count

abbrev pub decreases-each : goal.decreases-each
decreases-each l = l.count - length l.all.items
