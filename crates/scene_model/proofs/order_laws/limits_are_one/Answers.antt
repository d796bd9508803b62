use Rattle.scene_model.proofs.OneLimits.{limits_same}
use Rattle.scene_model.proofs.order_laws.limits_are_one.Goals as goal

pub returns : goal.returns
returns c scene limits others are also = limits_same scene limits others are also
