use Rattle.std.proofs.Common.{◌≡◌, take, map, length}
use Rattle.rule_turns.specs.Turning.{use_over_at}
use Rattle.rule_turns.proofs.state.ScriptState.move_by.Given as goal

abbrev pub invariant-loop-i : goal.invariant-loop-i
invariant-loop-i l = record {
  counted : length l.self-inside.over.items ≡ length l.whens;
  moved : take l.i l.self-inside.over.items ≡ map (use_over_at l.rules l.inputs) (take l.i l.whens);
}
