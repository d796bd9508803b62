use Rattle.std.proofs.Common.{◌≤◌, ◌-◌}
use Rattle.index_maps.proofs.Halving.{IsHalved}
use Rattle.index_maps.proofs.cuts.Cuts.place_of.Given as goal

abbrev pub invariant-loop-low : goal.invariant-loop-low
invariant-loop-low g l = record {
  counted : l.initial.steps ≤ l.steps;
  search : IsHalved l.self l.global l.low l.high (l.steps - l.initial.steps);
}

abbrev pub decreases-loop-low : goal.decreases-loop-low
decreases-loop-low g l = l.high - l.low
