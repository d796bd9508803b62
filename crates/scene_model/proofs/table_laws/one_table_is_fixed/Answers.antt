use Rattle.scene_model.proofs.FixedTables.{one_history}
use Rattle.scene_model.proofs.table_laws.one_table_is_fixed.Goals as goal

pub returns : goal.returns
returns c = λ scene limits acts table faultless lawful finished. one_history scene faultless limits acts lawful finished table
