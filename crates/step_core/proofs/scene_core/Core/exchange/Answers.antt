use Rattle.step_core.proofs.Going.{went_then}
use Rattle.step_core.proofs.scene_core.Core.exchange.Goals as goal

pub returns : goal.returns
returns c = went_then c.args.self.now c.put_each-put.result c.put_each-put.new.self c.in_ok-took.took c.take_each.new.self c.put_each-put.ensures c.in_ok-took.ensures
