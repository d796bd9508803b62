use Rattle.std.proofs.Common.{◌≤◌, ◌^◌, arith}
use Rattle.std.proofs.lemmas.List.{get_or_read}
use Rattle.music_base.proofs.Lists.{All-push}
use Rattle.port_inbox.specs.Holding.{IsLinkOf}
use Rattle.port_inbox.specs.declared.arrivals.InboxLink.{InboxLink}
use Rattle.app_turn.proofs.FreshInboxes.{paired_next, paired_whole}
use Rattle.app_turn.proofs.opening.inbox_links_of.Goals as goal

pub loop-place-preserved : goal.loop-place-preserved
loop-place-preserved c =
    let read = get_or_read c.args.links.now c.loop-place.place c.index-links-place.result c.loop-place-test.true c.index-links-place.is 0 in
    rw c.in_ok-push.ensures.items (record {
      each = paired_next (IsLinkOf c.args.scene.now) c.args.links.now c.loop-place.all.items c.loop-place.place c.index-links-place.result c.inbox_link_of.result c.loop-place-test.true read c.loop-place.invariant.each c.inbox_link_of.ensures.link;
      late = All-push (λ (link : InboxLink). link.latency ≤ 10 ^ 16) c.loop-place.all.items c.inbox_link_of.result c.loop-place.invariant.late c.inbox_link_of.ensures.late;
    })

pub returns-clause-each : goal.returns-clause-each
returns-clause-each c = paired_whole (IsLinkOf c.args.scene.now) c.args.links.now c.loop-place.all.items c.loop-place.place (omega (arith, c.loop-place-test.false)) c.loop-place.invariant.each
