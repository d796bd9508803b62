use Rattle.std.proofs.Common.{◌≡◌, drop}
use Rattle.event_routes.specs.Routing.{same_ranks}
use Rattle.event_routes.proofs.block.same_ranks.Given as goal

abbrev pub invariant-loop-place : goal.invariant-loop-place
invariant-loop-place l = same_ranks (drop l.place l.targets) (drop l.place l.others) ≡ same_ranks l.targets l.others
