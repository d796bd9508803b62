use Rattle.std.proofs.Common.{◌≡◌, ◌++◌, drop}
use Rattle.std.specs.List.{filter_map}
use Rattle.scene_model.specs.Turns.{over_at_first}
use Rattle.rule_turns.proofs.state.ScriptState.start.Given as goal

abbrev pub invariant-loop-rule : goal.invariant-loop-rule
invariant-loop-rule l = filter_map over_at_first l.rules ≡ l.over.items ++ filter_map over_at_first (drop l.rule-index l.rules)
