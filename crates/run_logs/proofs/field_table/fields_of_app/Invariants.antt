use Rattle.run_logs.specs.QuickLines.{AreOfPort}
use Rattle.run_logs.proofs.Tables.{IsTable}
use Rattle.run_logs.proofs.field_table.fields_of_app.Given as goal

abbrev pub invariant-loop-place : goal.invariant-loop-place
invariant-loop-place l = IsTable (AreOfPort l.scene l.app) l.place l.fields
