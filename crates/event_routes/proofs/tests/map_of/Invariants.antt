use Rattle.std.proofs.Common.{◌≡◌, length}
use Rattle.event_routes.proofs.tests.map_of.Given as goal

abbrev pub invariant-loop-row : goal.invariant-loop-row
invariant-loop-row l = length l.maps.items ≡ l.row-index
