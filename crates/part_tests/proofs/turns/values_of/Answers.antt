use Rattle.part_tests.proofs.Shapes.{values-next}
use Rattle.part_tests.proofs.turns.values_of.Goals as goal

pub loop-i-preserved : goal.loop-i-preserved
loop-i-preserved c = rw c.in_ok-push.ensures.items (values-next c.args.indices.now c.loop-i.items.items c.loop-i.i 0 c.value_at-value.result c.loop-i-test.true c.loop-i.invariant)
