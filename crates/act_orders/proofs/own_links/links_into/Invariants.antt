use Rattle.std.proofs.Common.{◌≡◌}
use Rattle.std.specs.Prelude.{◌==◌}
use Rattle.std.specs.List.{filter}
use Rattle.music_base.specs.Numbers.{below}
use Rattle.scene_model.specs.Scenes.{receiver}
use Rattle.act_orders.proofs.own_links.links_into.Given as goal

abbrev pub invariant-loop-link : goal.invariant-loop-link
invariant-loop-link l = l.links.items ≡ filter (λ c. receiver l.scene c == l.app) (below l.link)
