use Rattle.scene_model.proofs.JoinedTables.{joined, joined_begins}
use Rattle.scene_model.proofs.table_laws.what_passed_begins_a_table.Goals as goal

pub returns : goal.returns
returns c = λ scene passed faultless fitting. (joined scene faultless passed fitting, joined_begins scene faultless passed fitting)
