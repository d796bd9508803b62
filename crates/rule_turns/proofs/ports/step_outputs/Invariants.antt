use Rattle.std.proofs.Common.{◌≡◌, ◌++◌, drop}
use Rattle.rule_turns.specs.Turning.{by_plan, seen}
use Rattle.rule_turns.proofs.ports.step_outputs.Given as goal

abbrev pub invariant-loop-p : goal.invariant-loop-p
invariant-loop-p l = by_plan (seen l.step) l.ports l.plans ≡ l.outputs.items ++ by_plan (seen l.step) (drop l.p l.ports) (drop l.p l.plans)
