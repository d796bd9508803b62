use Rattle.std.proofs.Common.{◌≡◌, ◌∙◌, [], get_or, arith}
use Rattle.std.specs.List.{flat_map}
use Rattle.index_maps.proofs.CutSteps.{cuts-apart, cuts-few}
use Rattle.index_maps.specs.Cuts.{cuts_end}
use Rattle.index_maps.specs.Intervals.{interval_indices}
use Rattle.event_routes.specs.Blocks.{cuts_of, routes_in}
use Rattle.event_routes.specs.Routing.{route_to}
use Rattle.event_routes.proofs.LookUp.{routes_of-are, gathered-routes}
use Rattle.event_routes.proofs.routes.Routes.build.Goals as goal

pub make-cuts-requires-clause-few : goal.make-cuts-requires-clause-few
make-cuts-requires-clause-few c =
    let runs = c.in_ok-blocks.ensures.runs in
    rw (c.in_ok-intervals_of.ensures, c.as_slice-4.ensures.value) (omega (arith, cuts-few 0 (cuts_of c.in_ok-blocks.blocks.items) runs.cuts, runs.limit))

pub returns-clause-routes : goal.returns-clause-routes
returns-clause-routes c =
    let sender = c.args.sender.now in
    let receiver = c.args.receiver.now in
    let intervals = c.in_ok-intervals.intervals in
    let lists = c.in_ok-lists.lists.items in
    let end : c.index_end.result ≡ cuts_end 0 intervals = rw c.as_slice.ensures at c.index_end.ensures in
    let joined : routes_in c.in_ok-blocks.blocks.items ≡ flat_map (λ g. route_to g (get_or lists g [])) (flat_map interval_indices intervals) = rw (c.as_slice-2.ensures, c.as_slice-3.ensures.value) at c.in_ok-blocks.ensures.routes in
    joined ∙ gathered-routes sender receiver intervals lists (cuts-apart intervals c.in_ok-intervals.ensures.apart) c.in_ok-intervals.ensures.indices (λ g lt. c.in_ok-lists.ensures.targets g (omega (arith, end, lt)))

pub returns-clause-targets : goal.returns-clause-targets
returns-clause-targets c = rw (returns-clause-routes c) (routes_of-are c.args.sender.now c.args.receiver.now)
