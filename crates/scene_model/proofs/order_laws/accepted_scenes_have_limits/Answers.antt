use Rattle.scene_model.proofs.Chosen.{accepted_have_limits}
use Rattle.scene_model.proofs.order_laws.accepted_scenes_have_limits.Goals as goal

pub returns : goal.returns
returns c scene ok accepted = let found = accepted_have_limits scene ok accepted in (found.0, found.1.0)
