use Rattle.std.proofs.Common.{◌<◌, ◌∙◌, [], ap, refl, length, arith, ℕ}
use Rattle.circular_buffer.specs.Buffer.{buffer}
use Rattle.music_base.specs.declared.item.Block.{Block}
use Rattle.step_core.specs.Cores.{room_for}
use Rattle.step_core.proofs.Opening.{rings-more}
use Rattle.step_core.proofs.Rooms.{room_most}
use Rattle.step_core.proofs.starts.make_rings.Goals as goal

pub make-requires-clause-most : goal.make-requires-clause-most
make-requires-clause-most c =
    let is = c.room_of-room.ensures c.args.limits.now refl in
    let link : c.loop-link.link < length c.args.scene.now.links = omega (arith, c.loop-link-test.true, c.requires.counted) in
    rw is (room_most c.args.scene.now c.args.limits.now c.loop-link.link c.requires.faultless link)

pub loop-link-preserved : goal.loop-link-preserved
loop-link-preserved c =
    let is = c.room_of-room.ensures c.args.limits.now refl in
    c.in_ok-push.ensures.items ∙ rings-more (λ d. buffer {X = Block} [] (room_for c.args.scene.now c.args.limits.now d)) c.loop-link.link _ c.loop-link.rings.items c.loop-link.invariant (c.in_ok-make.ensures ∙ ap (λ (n : ℕ). buffer {X = Block} [] n) is)
