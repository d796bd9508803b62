use Rattle.std.proofs.Common.{◌≡◌, map, take}
use Rattle.rule_turns.specs.Plans.{indices_of}
use Rattle.rule_turns.proofs.planning.indices_of_ports.Given as goal

abbrev pub invariant-loop-port : goal.invariant-loop-port
invariant-loop-port l = l.lists.items ≡ map indices_of (take l.port-index l.ports)
