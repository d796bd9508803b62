use Rattle.std.proofs.Common.{◌≡◌, map}
use Rattle.music_base.specs.Numbers.{below}
use Rattle.act_orders.specs.OwnLinks.{out_of}
use Rattle.act_orders.proofs.own_links.out_of_each.Given as goal

abbrev pub invariant-loop-app : goal.invariant-loop-app
invariant-loop-app l = l.all.items ≡ map (out_of l.scene) (below l.app)
