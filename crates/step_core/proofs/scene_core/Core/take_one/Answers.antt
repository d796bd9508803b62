use Rattle.std.proofs.Common.{refl}
use Rattle.scene_model.specs.declared.act.Act.TheVariants.{Take}
use Rattle.step_core.proofs.Going.{did_one}
use Rattle.step_core.proofs.scene_core.Core.take_one.Goals as goal

pub returns : goal.returns
returns c = did_one c.args.self.now c.take.new.self (Take c.args.own.link) (c.if-not-can_take.ensures.0 refl) c.in_ok-take.ensures.ok
