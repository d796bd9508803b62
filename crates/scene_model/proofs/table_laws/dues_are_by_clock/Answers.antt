use Rattle.scene_model.proofs.ByClock.{due_by_clock, scene_due_by_clock}
use Rattle.scene_model.proofs.table_laws.dues_are_by_clock.Goals as goal

pub returns : goal.returns
returns c = record { numbers = due_by_clock; scenes = scene_due_by_clock }
