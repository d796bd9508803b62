use Rattle.std.proofs.Common.{◌≡◌, ◌++◌, take}
use Rattle.std.specs.List.{flat_map}
use Rattle.scene_model.specs.Turns.{replied}
use Rattle.rule_turns.proofs.arrivals.reply.Given as goal

abbrev pub invariant-loop-item : goal.invariant-loop-item
invariant-loop-item l = l.items ≡ l.initial.items ++ flat_map (replied l.time) (take l.item-index l.arrivals)
