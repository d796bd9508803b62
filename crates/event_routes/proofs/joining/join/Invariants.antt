use Rattle.std.proofs.Common.{◌≡◌, [], get_or, take}
use Rattle.std.specs.List.{flat_map}
use Rattle.index_maps.specs.Cuts.{cuts_end}
use Rattle.index_maps.specs.Intervals.{interval_indices}
use Rattle.event_routes.specs.Blocks.{AreRuns, routes_in}
use Rattle.event_routes.specs.Routing.{route_to}
use Rattle.event_routes.proofs.joining.join.Given as goal

abbrev pub invariant-loop-interval : goal.invariant-loop-interval
invariant-loop-interval l = record {
  runs : AreRuns l.blocks.items (cuts_end 0 (take l.interval-index l.intervals));
  routes : routes_in l.blocks.items ≡ flat_map (λ g. route_to g (get_or l.lists g [])) (flat_map interval_indices (take l.interval-index l.intervals));
}
