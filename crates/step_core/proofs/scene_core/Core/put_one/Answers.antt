use Rattle.std.proofs.Common.{refl}
use Rattle.scene_model.specs.declared.act.Act.TheVariants.{Put}
use Rattle.step_core.proofs.Going.{did_one}
use Rattle.step_core.proofs.scene_core.Core.put_one.Goals as goal

pub returns : goal.returns
returns c = did_one c.args.self.now c.put.new.self (Put c.args.own.link) (c.if-not-can_put.ensures.0 refl) c.put.ensures
