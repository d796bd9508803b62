use Rattle.std.proofs.Common.{◌≡◌}
use Rattle.scene_model.proofs.Finish.{left_of}
use Rattle.step_core.specs.Cores.{IsAfter}
use Rattle.step_core.proofs.alone.drive.Given as goal

abbrev pub invariant-loop-act : goal.invariant-loop-act
invariant-loop-act l = IsAfter l.scene l.initial.core.limits l.acts l.core × (l.core.released ≡ l.initial.core.released)

-- each act takes one from what is left
abbrev pub decreases-loop-act : goal.decreases-loop-act
decreases-loop-act l = left_of l.core.scene l.core.counts
