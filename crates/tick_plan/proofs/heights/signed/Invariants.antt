use Rattle.std.proofs.Common.{◌≡◌, pos, map, take}
use Rattle.tick_plan.proofs.heights.signed.Given as goal

abbrev pub invariant-loop-height : goal.invariant-loop-height
invariant-loop-height l = l.potentials.items ≡ map pos (take l.height-index l.heights)
