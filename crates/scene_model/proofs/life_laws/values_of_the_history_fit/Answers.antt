use Rattle.scene_model.proofs.WrittenLives.{history_fits}
use Rattle.scene_model.proofs.life_laws.values_of_the_history_fit.Goals as goal

pub returns : goal.returns
returns c = λ scene a k p faultless. history_fits scene faultless a k p
