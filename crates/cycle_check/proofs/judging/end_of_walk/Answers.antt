use Rattle.cycle_check.proofs.CycleTests.{IsWalk-more, eq_from_failed, ne_from_test, no_walk}
use Rattle.cycle_check.proofs.judging.end_of_walk.Goals as goal

pub returns-then-ne-clause-none : goal.returns-then-ne-clause-none
returns-then-ne-clause-none c =
    no_walk c.args.walk.now c.loop-wait.wait-index c.wait-item.result c.args.from c.loop-wait.at c.loop-wait-test.true c.wait-item.is c.loop-wait.invariant
    (ne_from_test _ _ c.if-ne.ensures)

pub loop-wait-preserved : goal.loop-wait-preserved
loop-wait-preserved c =
    IsWalk-more c.args.walk.now c.loop-wait.wait-index c.wait-item.result c.args.from c.loop-wait.at c.loop-wait-test.true c.wait-item.is c.loop-wait.invariant
    (eq_from_failed _ _ c.if-ne.ensures)
