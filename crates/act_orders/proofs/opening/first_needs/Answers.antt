use Rattle.std.proofs.Common.{◌∙◌}
use Rattle.scene_model.specs.Clocks.{wanted}
use Rattle.act_orders.proofs.Lists.{one_place_more}
use Rattle.act_orders.proofs.opening.first_needs.Goals as goal

pub loop-link-preserved : goal.loop-link-preserved
loop-link-preserved c = c.in_ok-push.ensures.items ∙ one_place_more (λ d. wanted c.args.scene.now d 0) c.loop-link.link _ c.loop-link.needs.items c.loop-link.invariant c.wanted_by.ensures
