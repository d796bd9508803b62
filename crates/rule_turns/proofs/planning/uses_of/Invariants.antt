use Rattle.std.proofs.Common.{◌≡◌, ◌≤◌, ◌++◌, drop}
use Rattle.rule_turns.specs.Plans.{uses_from}
use Rattle.rule_turns.proofs.planning.uses_of.Given as goal

abbrev pub invariant-loop-i : goal.invariant-loop-i
invariant-loop-i l = (l.state ≤ l.i) × (uses_from l.ports.ports.now l.written l.name 0 0 l.rules ≡ l.uses ++ uses_from l.ports.ports.now l.written l.name l.i l.state (drop l.i l.rules))
