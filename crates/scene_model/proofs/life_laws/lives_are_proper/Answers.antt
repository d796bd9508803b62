use Rattle.scene_model.proofs.ProperLives.{again-proper}
use Rattle.scene_model.proofs.life_laws.lives_are_proper.Goals as goal

pub returns : goal.returns
returns c = λ scene table faultless. again-proper scene table faultless
