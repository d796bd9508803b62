use Rattle.std.proofs.Common.{take}
use Rattle.scene_model.specs.Cover.{IsWalk}
use Rattle.cycle_check.proofs.judging.end_of_walk.Given as goal

abbrev pub invariant-loop-wait : goal.invariant-loop-wait
invariant-loop-wait l = IsWalk l.fn.from (take l.wait-index l.walk) l.at
