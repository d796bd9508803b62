use Rattle.scene_model.proofs.AcceptedOrReportable.{accepted_or_reportable}
use Rattle.scene_model.proofs.accepted_laws.scenes_are_accepted_or_refused.Goals as goal

pub returns : goal.returns
returns c scene faultless = accepted_or_reportable scene faultless
