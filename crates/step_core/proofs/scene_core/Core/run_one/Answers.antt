use Rattle.std.proofs.Common.{refl}
use Rattle.scene_model.specs.declared.act.Act.TheVariants.{Run}
use Rattle.step_core.proofs.Going.{did_one}
use Rattle.step_core.proofs.scene_core.Core.run_one.Goals as goal

pub returns : goal.returns
returns c = did_one c.args.self.now c.run.new.self (Run c.args.app) (c.if-not-can_run.ensures.0 refl) c.in_ok-run.ensures.ok
