use Rattle.scene_model.proofs.Enabled.{enabled}
use Rattle.scene_model.proofs.SceneWaits.{fits_each_passes}
use Rattle.scene_model.proofs.order_laws.plans_that_fit_leave_an_act.Goals as goal

pub returns : goal.returns
returns c scene limits potentials s ok fits sound = enabled scene ok limits potentials (fits_each_passes scene limits potentials fits) s sound
