use Rattle.step_core.proofs.Going.{went_then}
use Rattle.step_core.proofs.scene_core.Core.take_each.Goals as goal

pub loop-own-preserved : goal.loop-own-preserved
loop-own-preserved c = went_then c.args.self.now c.loop-own.acted c.loop-own.self c.in_ok-acted.field-0 c.take_all.new.self c.loop-own.invariant c.in_ok-acted.ensures
