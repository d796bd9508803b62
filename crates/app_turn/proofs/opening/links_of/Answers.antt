use Rattle.std.proofs.Common.{◌∙◌, sym}
use Rattle.std.specs.Prelude.{◌==◌, ◌&&◌}
use Rattle.scene_model.specs.Scenes.{link_at, receiver}
use Rattle.app_turn.proofs.Places.{filter_in, filter_out}
use Rattle.app_turn.proofs.opening.links_of.Goals.{then-leads_to+in_ok-push, else-leads_to}
use Rattle.app_turn.proofs.opening.links_of.Goals as goal

pub loop-link-preserved : goal.loop-link-preserved
loop-link-preserved c = elim c.if-leads_to.branch [
  | then-leads_to+in_ok-push w ↦ rw w.links-is (w.in_ok-push.ensures.items ∙ filter_in (λ d. receiver c.args.scene.now d == c.args.app && (link_at c.args.scene.now d).to_port == c.args.port) c.loop-link.link c.loop-link.links.items (sym c.leads_to.ensures ∙ w.if-leads_to.true) c.loop-link.invariant)
  | else-leads_to w ↦ rw w.links-is (filter_out (λ d. receiver c.args.scene.now d == c.args.app && (link_at c.args.scene.now d).to_port == c.args.port) c.loop-link.link c.loop-link.links.items (sym c.leads_to.ensures ∙ w.if-leads_to.false) c.loop-link.invariant)
]
