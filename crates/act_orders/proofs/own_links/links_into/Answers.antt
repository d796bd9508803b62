use Rattle.std.proofs.Common.{◌∙◌, sym}
use Rattle.std.specs.Prelude.{◌==◌}
use Rattle.scene_model.specs.Scenes.{receiver}
use Rattle.act_orders.proofs.Lists.{filter_in, filter_out}
use Rattle.act_orders.proofs.own_links.links_into.Goals.{then-receives+in_ok-push, else-receives}
use Rattle.act_orders.proofs.own_links.links_into.Goals as goal

pub loop-link-preserved : goal.loop-link-preserved
loop-link-preserved c = elim c.if-receives.branch [
  | then-receives+in_ok-push w ↦ rw w.links-is (w.in_ok-push.ensures.items ∙ filter_in (λ d. receiver c.args.scene.now d == c.args.app) c.loop-link.link c.loop-link.links.items (sym c.receives.ensures ∙ w.if-receives.true) c.loop-link.invariant)
  | else-receives w ↦ rw w.links-is (filter_out (λ d. receiver c.args.scene.now d == c.args.app) c.loop-link.link c.loop-link.links.items (sym c.receives.ensures ∙ w.if-receives.false) c.loop-link.invariant)
]
