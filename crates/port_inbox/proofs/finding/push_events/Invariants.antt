use Rattle.std.proofs.Common.{◌≡◌, ◌++◌, drop, map}
use Rattle.std.specs.List.{filter_map}
use Rattle.port_inbox.specs.Arrivals.{event_of}
use Rattle.port_inbox.specs.Gathering.{arrival_found}
use Rattle.port_inbox.proofs.finding.push_events.Given as goal

abbrev pub invariant-loop-event : goal.invariant-loop-event
invariant-loop-event l =
    l.events.items ++ map event_of (filter_map (arrival_found l.routes) (drop l.event-index l.found)) ≡ l.initial.events.items ++ map event_of (filter_map (arrival_found l.routes) l.found)
