use Rattle.std.proofs.Common.{◌≡◌, length}
use Rattle.run_logs.proofs.Batches.{IsWrittenTo}
use Rattle.run_logs.proofs.writing.write_lines.Given as goal

abbrev pub invariant-loop-rest : goal.invariant-loop-rest
invariant-loop-rest g l = record {
  written : IsWrittenTo l.scene l.rows l.rest (g.K.Sink.taken l.initial.sink) (g.K.Sink.taken l.sink);
  stays : g.K.Sink.faults l.sink ≡ g.K.Sink.faults l.initial.sink;
}

abbrev pub decreases-loop-rest : goal.decreases-loop-rest
decreases-loop-rest g l = length l.rest
