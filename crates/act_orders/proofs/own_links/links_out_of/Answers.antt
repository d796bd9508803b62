use Rattle.std.proofs.Common.{◌∙◌, sym}
use Rattle.std.specs.Prelude.{◌==◌}
use Rattle.scene_model.specs.Scenes.{sender}
use Rattle.act_orders.proofs.Lists.{filter_in, filter_out}
use Rattle.act_orders.proofs.own_links.links_out_of.Goals.{then-sends+in_ok-push, else-sends}
use Rattle.act_orders.proofs.own_links.links_out_of.Goals as goal

pub loop-link-preserved : goal.loop-link-preserved
loop-link-preserved c = elim c.if-sends.branch [
  | then-sends+in_ok-push w ↦ rw w.links-is (w.in_ok-push.ensures.items ∙ filter_in (λ d. sender c.args.scene.now d == c.args.app) c.loop-link.link c.loop-link.links.items (sym c.sends.ensures ∙ w.if-sends.true) c.loop-link.invariant)
  | else-sends w ↦ rw w.links-is (filter_out (λ d. sender c.args.scene.now d == c.args.app) c.loop-link.link c.loop-link.links.items (sym c.sends.ensures ∙ w.if-sends.false) c.loop-link.invariant)
]
