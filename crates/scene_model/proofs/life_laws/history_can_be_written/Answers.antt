use Rattle.scene_model.specs.Lives.{history}
use Rattle.scene_model.proofs.WrittenLives.{history_written}
use Rattle.scene_model.proofs.WrittenRows.{rows_writable}
use Rattle.scene_model.proofs.life_laws.history_can_be_written.Goals as goal

pub returns : goal.returns
returns c = λ scene faultless. rows_writable scene (history scene) (history_written scene faultless)
