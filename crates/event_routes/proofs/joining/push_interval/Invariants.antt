use Rattle.std.proofs.Common.{◌≡◌, ◌-◌, ◌++◌, [], get_or}
use Rattle.std.specs.List.{flat_map, range_with_len}
use Rattle.event_routes.specs.Blocks.{AreRuns, routes_in}
use Rattle.event_routes.specs.Routing.{route_to}
use Rattle.event_routes.proofs.joining.push_interval.Given as goal

abbrev pub invariant-loop-global : goal.invariant-loop-global
invariant-loop-global l = record {
  runs : AreRuns l.blocks.items l.global;
  routes : routes_in l.blocks.items ≡ routes_in l.initial.blocks.items ++ flat_map (λ g. route_to g (get_or l.lists g [])) (range_with_len l.fn.interval.first (l.global - l.fn.interval.first));
}
