use Rattle.std.proofs.Common.{◌≡◌, map}
use Rattle.music_base.specs.Numbers.{below}
use Rattle.scene_model.specs.Clocks.{steps}
use Rattle.act_orders.proofs.opening.step_counts.Given as goal

abbrev pub invariant-loop-app : goal.invariant-loop-app
invariant-loop-app l = l.counts.items ≡ map (steps l.scene) (below l.app)
