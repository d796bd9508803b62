use Rattle.std.proofs.Common.{◌≡◌, ℕ, true, take}
use Rattle.std.specs.List.{count_by, list_all}
use Rattle.index_maps.specs.Maps.{globals}
use Rattle.index_maps.specs.Intervals.{holds, is_some_interval}
use Rattle.index_maps.proofs.Counts.{has}
use Rattle.index_maps.proofs.interval.each_spans.Given as goal

abbrev pub invariant-loop-map : goal.invariant-loop-map
invariant-loop-map l = record {
  some : list_all is_some_interval l.spans.items ≡ true;
  counts : (g : ℕ) → count_by (holds g) l.spans.items ≡ count_by (λ map. has g (globals map)) (take l.map-index l.maps);
}
