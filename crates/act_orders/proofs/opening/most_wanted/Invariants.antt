use Rattle.std.proofs.Common.{◌≡◌, map}
use Rattle.music_base.specs.Numbers.{below}
use Rattle.scene_model.specs.Clocks.{wanted_blocks}
use Rattle.act_orders.proofs.opening.most_wanted.Given as goal

abbrev pub invariant-loop-link : goal.invariant-loop-link
invariant-loop-link l = l.most.items ≡ map (wanted_blocks l.scene) (below l.link)
