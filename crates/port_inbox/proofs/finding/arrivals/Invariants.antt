use Rattle.std.proofs.Common.{◌≡◌, ◌++◌, drop}
use Rattle.std.specs.List.{filter_map}
use Rattle.port_inbox.specs.Gathering.{arrival_found}
use Rattle.port_inbox.proofs.finding.arrivals.Given as goal

abbrev pub invariant-loop-event : goal.invariant-loop-event
invariant-loop-event l = l.arrivals.items ++ filter_map (arrival_found l.routes) (drop l.event-index l.found) ≡ filter_map (arrival_found l.routes) l.found
