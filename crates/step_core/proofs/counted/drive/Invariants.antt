use Rattle.std.proofs.Common.{◌≡◌}
use Rattle.scene_model.proofs.Finish.{left_of}
use Rattle.step_core.specs.Running.{IsRunning, IsSizeOut}
use Rattle.step_core.proofs.counted.drive.Given as goal

abbrev pub invariant-loop-core : goal.invariant-loop-core
invariant-loop-core l = record {
  running : IsRunning l.scene l.initial.core.limits l.core;
  counted : IsSizeOut l.core l.size;
  log : l.log ≡ l.initial.log;
}

-- each act takes one from what is left
abbrev pub decreases-loop-core : goal.decreases-loop-core
decreases-loop-core l = left_of l.core.scene l.core.counts
