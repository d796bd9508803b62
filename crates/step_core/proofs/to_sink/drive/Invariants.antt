use Rattle.std.proofs.Common.{◌≡◌}
use Rattle.std.specs.Prelude.{Option, List, ℕ}
use Rattle.music_base.specs.Outside.{Took}
use Rattle.scene_model.proofs.Finish.{left_of}
use Rattle.step_core.specs.Running.{IsRunning, text_out}
use Rattle.step_core.proofs.to_sink.drive.Given as goal

abbrev pub invariant-loop-core : goal.invariant-loop-core
invariant-loop-core g l = record {
  running : IsRunning l.scene l.initial.core.limits l.core;
  took : (before : Option (List ℕ)) → Took before (text_out l.initial.core) (g.K.Sink.taken l.initial.sink) → Took before (text_out l.core) (g.K.Sink.taken l.sink);
  log : l.log ≡ l.initial.log;
  stays : g.K.Sink.faults l.sink ≡ g.K.Sink.faults l.initial.sink;
}

-- each act takes one from what is left
abbrev pub decreases-loop-core : goal.decreases-loop-core
decreases-loop-core g l = left_of l.core.scene l.core.counts
