use Rattle.run_logs.specs.QuickLines.{AreRankFields}
use Rattle.run_logs.proofs.Tables.{IsTable}
use Rattle.run_logs.proofs.field_table.fields_of_port.Given as goal

abbrev pub invariant-loop-rank : goal.invariant-loop-rank
invariant-loop-rank l = IsTable (AreRankFields l.scene l.app l.port) l.rank l.fields
