use Rattle.std.proofs.Common.{◌≡◌, ◌<◌, ℕ, [], length, get_or}
use Rattle.scene_model.specs.Scenes.{no_port}
use Rattle.rule_turns.specs.Turning.{IsInput}
use Rattle.part_tests.proofs.turns.inputs.Given as goal

abbrev pub invariant-loop-p : goal.invariant-loop-p
invariant-loop-p l = record {
  counted : length l.inputs.items ≡ l.p;
  kinds : (q : ℕ) → q < length l.inputs.items
      → IsInput (get_or l.ports q no_port).direction (get_or l.ports q no_port).kind (get_or l.ports q no_port) (get_or l.inputs.items q []);
}
