use Rattle.std.proofs.Common.{◌<◌, arith, length}
use Rattle.std.proofs.lemmas.List.{get_or_read}
use Rattle.port_inbox.specs.Holding.{IsRoutesOf}
use Rattle.app_turn.proofs.FreshInboxes.{few_ranks, paired_next, paired_whole}
use Rattle.app_turn.proofs.opening.routes_of.Goals as goal

pub build-requires : goal.build-requires
build-requires c =
    let read = get_or_read c.args.links.now c.loop-place.place c.index-links-place.result c.loop-place-test.true c.index-links-place.is 0 in
    let small : c.index-links-place.result < length c.args.scene.now.links = rw read (c.requires.links c.loop-place.place c.loop-place-test.true) in
    rw c.input_of-input.ensures (few_ranks c.args.scene.now c.requires.scene c.index-links-place.result small)

pub loop-place-preserved : goal.loop-place-preserved
loop-place-preserved c =
    let read = get_or_read c.args.links.now c.loop-place.place c.index-links-place.result c.loop-place-test.true c.index-links-place.is 0 in
    rw c.in_ok-push.ensures.items (paired_next (IsRoutesOf c.args.scene.now) c.args.links.now c.loop-place.all.items c.loop-place.place c.index-links-place.result c.in_ok-routes.routes c.loop-place-test.true read c.loop-place.invariant
    (rw (c.output_of-output.ensures, c.input_of-input.ensures) at c.in_ok-routes.ensures.targets))

pub returns : goal.returns
returns c = paired_whole (IsRoutesOf c.args.scene.now) c.args.links.now c.loop-place.all.items c.loop-place.place (omega (arith, c.loop-place-test.false)) c.loop-place.invariant
