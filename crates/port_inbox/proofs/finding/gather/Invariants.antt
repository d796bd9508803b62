use Rattle.std.proofs.Common.{◌≡◌, ◌++◌, List, drop, length}
use Rattle.std.specs.List.{filter_map, flat_map}
use Rattle.event_routes.specs.Routing.{Route}
use Rattle.port_inbox.specs.Arrivals.{line_waiting, paired}
use Rattle.port_inbox.specs.Gathering.{waiting_found}
use Rattle.port_inbox.proofs.finding.gather.Given as goal

abbrev pub invariant-loop-place : goal.invariant-loop-place
invariant-loop-place l = (routes : List (List Route)) → length l.lines ≡ length routes
    → filter_map (waiting_found routes) l.out.items ++ flat_map (line_waiting l.start l.tick l.step) (drop l.place (paired l.lines routes))
    ≡ filter_map (waiting_found routes) l.initial.out.items ++ flat_map (line_waiting l.start l.tick l.step) (paired l.lines routes)
