use Rattle.step_core.proofs.Going.{went_some, went_still}
use Rattle.step_core.proofs.scene_core.Core.take_all.Goals as goal

pub returns-then-not-branch : goal.returns-then-not-branch
returns-then-not-branch c = went_still c.args.self.now c.loop.acted c.loop.self c.take_one.new.self c.loop.invariant (rw c.if-not-branch.true at c.in_ok-take_one.ensures)

pub loop-preserved : goal.loop-preserved
loop-preserved c = went_some c.args.self.now c.loop.acted c.loop.self c.take_one.new.self c.loop.invariant (rw c.if-not-branch.false at c.in_ok-take_one.ensures)
