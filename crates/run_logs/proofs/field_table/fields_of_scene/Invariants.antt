use Rattle.run_logs.specs.QuickLines.{AreOfApp}
use Rattle.run_logs.proofs.Tables.{IsTable}
use Rattle.run_logs.proofs.field_table.fields_of_scene.Given as goal

abbrev pub invariant-loop-app : goal.invariant-loop-app
invariant-loop-app l = IsTable (AreOfApp l.scene) l.app l.fields
