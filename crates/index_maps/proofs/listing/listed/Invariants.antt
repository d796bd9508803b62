use Rattle.std.proofs.Common.{◌≡◌, take}
use Rattle.std.specs.List.{flat_map}
use Rattle.index_maps.specs.Intervals.{interval_indices}
use Rattle.index_maps.proofs.listing.listed.Given as goal

abbrev pub invariant-loop-interval : goal.invariant-loop-interval
invariant-loop-interval l = l.list.items ≡ flat_map interval_indices (take l.interval-index l.intervals)
