use Rattle.std.proofs.Common.{◌∙◌}
use Rattle.app_turn.specs.OwnLinks.{place_on}
use Rattle.app_turn.proofs.Places.{one_place_more}
use Rattle.app_turn.proofs.opening.places_of.Goals as goal

pub loop-link-preserved : goal.loop-link-preserved
loop-link-preserved c = c.in_ok-push.ensures.items ∙ one_place_more (place_on c.args.scene.now) c.loop-link.link _ c.loop-link.places.items c.loop-link.invariant c.place_of.ensures
