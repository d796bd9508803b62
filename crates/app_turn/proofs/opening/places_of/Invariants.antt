use Rattle.std.proofs.Common.{◌≡◌, map}
use Rattle.music_base.specs.Numbers.{below}
use Rattle.app_turn.specs.OwnLinks.{place_on}
use Rattle.app_turn.proofs.opening.places_of.Given as goal

abbrev pub invariant-loop-link : goal.invariant-loop-link
invariant-loop-link l = l.places.items ≡ map (place_on l.scene) (below l.link)
