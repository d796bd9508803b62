use Rattle.scene_model.proofs.AcceptedOrReportable.{accepted_is_live}
use Rattle.scene_model.proofs.accepted_laws.faultless_accepted_scenes_are_live.Goals as goal

pub returns : goal.returns
returns c scene faultless accepted = accepted_is_live scene faultless accepted
