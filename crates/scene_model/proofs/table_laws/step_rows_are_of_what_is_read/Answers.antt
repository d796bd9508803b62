use Rattle.scene_model.proofs.StepRows.{rows_same}
use Rattle.scene_model.proofs.table_laws.step_rows_are_of_what_is_read.Goals as goal

pub returns : goal.returns
returns c = rows_same
