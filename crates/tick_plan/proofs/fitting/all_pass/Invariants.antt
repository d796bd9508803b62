use Rattle.std.proofs.Common.{All, length, take}
use Rattle.scene_model.specs.Cover.{Passes}
use Rattle.tick_plan.proofs.fitting.all_pass.Given as goal

abbrev pub invariant-loop-wait : goal.invariant-loop-wait
invariant-loop-wait l = All (Passes (length l.potentials) l.potentials) (take l.wait-index l.waits)
