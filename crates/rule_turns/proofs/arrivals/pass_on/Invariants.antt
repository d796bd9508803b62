use Rattle.std.proofs.Common.{◌≡◌, ◌++◌, take}
use Rattle.std.specs.List.{flat_map}
use Rattle.scene_model.specs.Turns.{passed}
use Rattle.rule_turns.proofs.arrivals.pass_on.Given as goal

abbrev pub invariant-loop-item : goal.invariant-loop-item
invariant-loop-item l = l.items ≡ l.initial.items ++ flat_map (passed l.output l.time l.shift) (take l.item-index l.arrivals)
