use Rattle.std.proofs.Common.{◌≡◌, ◌++◌, take}
use Rattle.std.specs.Prelude.{map}
use Rattle.index_maps.specs.Intervals.{single}
use Rattle.index_maps.proofs.interval.push_indices.Given as goal

abbrev pub invariant-loop-index : goal.invariant-loop-index
invariant-loop-index l = l.spans.items ≡ l.initial.spans.items ++ map single (take l.index-index l.indices)
