use Rattle.std.proofs.Common.{◌≡◌, ◌≤◌, ◌-◌, ◌++◌}
use Rattle.std.specs.List.{range_with_len}
use Rattle.index_maps.proofs.listing.push_interval.Given as goal

abbrev pub invariant-loop-index : goal.invariant-loop-index
invariant-loop-index l = record {
  within : l.index - l.fn.interval.first ≤ l.fn.interval.after - l.fn.interval.first;
  pushed : l.list.items ≡ l.initial.list.items ++ range_with_len l.fn.interval.first (l.index - l.fn.interval.first);
}
