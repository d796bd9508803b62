use Rattle.std.proofs.Common.{◌∙◌}
use Rattle.scene_model.specs.Clocks.{wanted_blocks}
use Rattle.act_orders.proofs.Lists.{one_place_more}
use Rattle.act_orders.proofs.opening.most_wanted.Goals as goal

pub loop-link-preserved : goal.loop-link-preserved
loop-link-preserved c = c.in_ok-push.ensures.items ∙ one_place_more (wanted_blocks c.args.scene.now) c.loop-link.link _ c.loop-link.most.items c.loop-link.invariant c.wanted_blocks.ensures
