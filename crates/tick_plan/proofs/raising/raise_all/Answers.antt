use Rattle.tick_plan.proofs.Searching.{IsRising-still}
use Rattle.tick_plan.proofs.raising.raise_all.Goals as goal

pub loop-preserved : goal.loop-preserved
loop-preserved g c = IsRising-still _ _ _ _ _ c.loop.invariant c.raise_each.ensures.walks

pub returns-clause-relaxed : goal.returns-clause-relaxed
returns-clause-relaxed g c = rw c.loop-test.false at c.raise_each.ensures.relaxed
