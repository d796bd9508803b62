use Rattle.std.proofs.Common.{◌≡◌, drop}
use Rattle.index_maps.proofs.Sharing.{least_behind}
use Rattle.index_maps.proofs.interval.least_shared.Given as goal

abbrev pub invariant-loop-span : goal.invariant-loop-span
invariant-loop-span l = least_behind l.reach (drop l.span-index l.spans) ≡ least_behind 0 l.spans
