use Rattle.std.proofs.Common.{◌<◌, ℕ}
use Rattle.scene_model.specs.Orders.{CanRun}
use Rattle.step_core.proofs.scene_core.Core.app_act.Given as goal

abbrev pub invariant-loop-place : goal.invariant-loop-place
invariant-loop-place l = (a : ℕ) → a < l.place → CanRun l.self.scene l.self.counts a → ⊥
