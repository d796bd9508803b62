use Rattle.std.proofs.Common.{All, take}
use Rattle.std.specs.List.{Contains}
use Rattle.cycle_check.proofs.judging.are_among.Given as goal

abbrev pub invariant-loop-wait : goal.invariant-loop-wait
invariant-loop-wait l = All (Contains l.all) (take l.wait-index l.waits)
