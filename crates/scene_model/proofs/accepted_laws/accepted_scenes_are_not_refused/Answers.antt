use Rattle.scene_model.proofs.AcceptedOrReportable.{not_both}
use Rattle.scene_model.proofs.accepted_laws.accepted_scenes_are_not_refused.Goals as goal

pub returns : goal.returns
returns c scene cycle accepted found = not_both scene cycle accepted found
