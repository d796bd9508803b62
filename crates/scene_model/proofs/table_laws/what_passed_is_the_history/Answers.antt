use Rattle.scene_model.proofs.PassedBlocks.{begun_is_history}
use Rattle.scene_model.proofs.table_laws.what_passed_is_the_history.Goals as goal

pub returns : goal.returns
returns c = λ scene limits acts passed table faultless lawful finished begins lives. begun_is_history scene faultless limits acts lawful finished passed table begins lives
