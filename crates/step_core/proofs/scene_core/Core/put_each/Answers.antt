use Rattle.step_core.proofs.Going.{went_then}
use Rattle.step_core.proofs.scene_core.Core.put_each.Goals as goal

pub loop-own-preserved : goal.loop-own-preserved
loop-own-preserved c = went_then c.args.self.now c.loop-own.acted c.loop-own.self c.put_one-acted.result c.put_one-acted.new.self c.loop-own.invariant c.put_one-acted.ensures
