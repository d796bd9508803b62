use Rattle.std.proofs.Common.{◌≡◌}
use Rattle.std.specs.Prelude.{◌==◌, ◌&&◌}
use Rattle.std.specs.List.{filter}
use Rattle.music_base.specs.Numbers.{below}
use Rattle.scene_model.specs.Scenes.{link_at, receiver}
use Rattle.app_turn.proofs.opening.links_of.Given as goal

abbrev pub invariant-loop-link : goal.invariant-loop-link
invariant-loop-link l = l.links.items ≡ filter (λ c. receiver l.scene c == l.app && (link_at l.scene c).to_port == l.port) (below l.link)
