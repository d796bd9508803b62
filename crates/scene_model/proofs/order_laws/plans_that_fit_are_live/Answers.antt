use Rattle.scene_model.proofs.Enabled.{live}
use Rattle.scene_model.proofs.SceneWaits.{fits_each_passes}
use Rattle.scene_model.proofs.order_laws.plans_that_fit_are_live.Goals as goal

pub returns : goal.returns
returns c scene limits potentials ok fits = live scene ok limits potentials fits.limits_counted (fits_each_passes scene limits potentials fits)
