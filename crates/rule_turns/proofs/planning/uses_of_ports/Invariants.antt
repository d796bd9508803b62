use Rattle.std.proofs.Common.{◌≡◌, map, take}
use Rattle.rule_turns.specs.Plans.{uses_of_port}
use Rattle.rule_turns.proofs.planning.uses_of_ports.Given as goal

abbrev pub invariant-loop-port : goal.invariant-loop-port
invariant-loop-port l = l.uses.items ≡ map (uses_of_port l.ports.ports.now l.rules) (take l.port-index l.ports.ports.now)
