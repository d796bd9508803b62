-- An accepted scene is live under its limits, so some lawful order finishes every application.
use Rattle.std.proofs.Common.{[]}
use Rattle.scene_model.proofs.AcceptedOrReportable.{accepted_is_live}
use Rattle.scene_model.proofs.Finish.{can_finish}
use Rattle.scene_model.proofs.FixedTables.{one_history}
use Rattle.scene_model.proofs.table_laws.accepted_scenes_have_one_history.Goals as goal

pub returns : goal.returns
returns c = λ scene table faultless accepted.
    let live = accepted_is_live scene faultless accepted in
    let order = can_finish scene live.0 live.2 [] (live.2.one_each, tt) in
    one_history scene faultless live.0 order.0 order.1 order.2 table
