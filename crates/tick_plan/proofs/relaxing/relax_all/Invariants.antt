use Rattle.tick_plan.specs.Heights.{IsSearch, gap_of}
use Rattle.tick_plan.proofs.relaxing.relax_all.Given as goal

abbrev pub invariant-loop : goal.invariant-loop
invariant-loop l = IsSearch l.applications l.waits l.search

abbrev pub decreases-loop : goal.decreases-loop
decreases-loop l = gap_of l.search.heights.items
