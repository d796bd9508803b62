use Rattle.std.proofs.Common.{◌∙◌, ◌+◌, ◌∷◌, [], ap}
use Rattle.std.proofs.lemmas.List.{length-append}
use Rattle.app_turn.specs.PortInboxes.{IsFresh, IsPortInbox}
use Rattle.app_turn.proofs.FreshInboxes.{one_stands}
use Rattle.app_turn.proofs.opening.inboxes_of.Goals as goal

pub loop-port-preserved : goal.loop-port-preserved
loop-port-preserved c = rw c.in_ok-push.ensures.items (record {
  count = length-append c.loop-port.all.items (c.in_ok-inbox.inbox ∷ []) ∙ ap (λ n. n + 1) c.loop-port.invariant.count;
  each = one_stands (λ p x. IsPortInbox c.args.scene.now c.args.app p 0 x × IsFresh x) c.loop-port.port c.loop-port.all.items c.in_ok-inbox.inbox c.loop-port.invariant.count c.loop-port.invariant.each (c.in_ok-inbox.ensures.stands, c.in_ok-inbox.ensures.fresh);
})
