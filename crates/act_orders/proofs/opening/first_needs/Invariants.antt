use Rattle.std.proofs.Common.{◌≡◌, map}
use Rattle.music_base.specs.Numbers.{below}
use Rattle.scene_model.specs.Clocks.{wanted}
use Rattle.act_orders.proofs.opening.first_needs.Given as goal

abbrev pub invariant-loop-link : goal.invariant-loop-link
invariant-loop-link l = l.needs.items ≡ map (λ c. wanted l.scene c 0) (below l.link)
