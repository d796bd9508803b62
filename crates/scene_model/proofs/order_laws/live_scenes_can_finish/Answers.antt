use Rattle.scene_model.proofs.Finish.{can_finish}
use Rattle.scene_model.proofs.order_laws.live_scenes_can_finish.Goals as goal

pub returns : goal.returns
returns c scene limits acts live lawful = can_finish scene limits live acts lawful
