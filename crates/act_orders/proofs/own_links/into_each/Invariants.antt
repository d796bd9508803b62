use Rattle.std.proofs.Common.{◌≡◌, map}
use Rattle.music_base.specs.Numbers.{below}
use Rattle.act_orders.specs.OwnLinks.{into_of}
use Rattle.act_orders.proofs.own_links.into_each.Given as goal

abbrev pub invariant-loop-app : goal.invariant-loop-app
invariant-loop-app l = l.all.items ≡ map (into_of l.scene) (below l.app)
