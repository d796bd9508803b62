use Rattle.std.proofs.Common.{◌<◌, ℕ}
use Rattle.step_core.specs.Cores.{IsStill}
use Rattle.step_core.proofs.scene_core.Core.link_act.Given as goal

abbrev pub invariant-loop-place : goal.invariant-loop-place
invariant-loop-place l = (c : ℕ) → c < l.place → IsStill l.self c
