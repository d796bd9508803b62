use Rattle.scene_model.proofs.Times.{Contains-times_between}
use Rattle.scene_model.proofs.time_laws.times_are_periods_apart.Goals as goal

pub returns : goal.returns
returns c = Contains-times_between
