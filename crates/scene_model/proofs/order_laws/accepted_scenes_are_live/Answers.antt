use Rattle.scene_model.proofs.Accepted.{accepted_live}
use Rattle.scene_model.proofs.order_laws.accepted_scenes_are_live.Goals as goal

pub returns : goal.returns
returns c scene limits ok accepted are = accepted_live scene ok accepted limits are
