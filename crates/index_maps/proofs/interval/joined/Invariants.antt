use Rattle.std.proofs.Common.{◌≡◌, ◌++◌, drop}
use Rattle.index_maps.proofs.Joining.{join}
use Rattle.index_maps.proofs.interval.joined.Given as goal

abbrev pub invariant-loop-span : goal.invariant-loop-span
invariant-loop-span l = l.done ++ join l.growing (drop l.span-index l.others) ≡ join l.initial.growing l.others
