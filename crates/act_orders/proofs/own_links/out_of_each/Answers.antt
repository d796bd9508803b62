use Rattle.std.proofs.Common.{◌∙◌}
use Rattle.act_orders.specs.OwnLinks.{out_of}
use Rattle.act_orders.proofs.Lists.{one_place_more}
use Rattle.act_orders.proofs.own_links.out_of_each.Goals as goal

pub loop-app-preserved : goal.loop-app-preserved
loop-app-preserved c = c.in_ok-push.ensures.items ∙ one_place_more (out_of c.args.scene.now) c.loop-app.app _ c.loop-app.all.items c.loop-app.invariant (c.from_vec.ensures ∙ c.in_ok-links.ensures)
