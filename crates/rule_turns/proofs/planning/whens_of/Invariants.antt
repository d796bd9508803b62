use Rattle.std.proofs.Common.{◌≡◌, ◌≤◌, ◌++◌, drop}
use Rattle.rule_turns.specs.Plans.{whens_from}
use Rattle.rule_turns.proofs.planning.whens_of.Given as goal

abbrev pub invariant-loop-i : goal.invariant-loop-i
invariant-loop-i l = (l.state ≤ l.i) × (whens_from l.ports.ports.now 0 0 l.rules ≡ l.uses ++ whens_from l.ports.ports.now l.i l.state (drop l.i l.rules))
