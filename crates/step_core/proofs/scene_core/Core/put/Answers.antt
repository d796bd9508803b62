use Rattle.std.proofs.Common.{◌<◌, length, ap, arith}
use Rattle.std.specs.Arc.{arc_value}
use Rattle.scene_model.specs.Orders.{Counts}
use Rattle.scene_model.proofs.Faultless.{connection_is}
use Rattle.step_core.proofs.Tests.{wants_put}
use Rattle.step_core.proofs.Puts.{put_next}
use Rattle.step_core.proofs.scene_core.Core.put.Goals as goal

pub index_mut-machine-requires : goal.index_mut-machine-requires
index_mut-machine-requires c =
    let can = rw (← c.self.view_is) at c.requires in
    let from = rw c.deref.ensures at c.sender_of-sender.ensures in
    omega (arith, from, (connection_is _ c.self.invariant.faultless c.args.link can.link).from_app, c.self.invariant.own.counted)

pub put-requires-clause-wants : goal.put-requires-clause-wants
put-requires-clause-wants c =
    let can = rw (← c.self.view_is, ← c.link.view_is) at c.requires in
    let from = rw (c.deref.ensures, ← c.link.view_is) at c.sender_of-sender.ensures in
    let small : c.sender_of-sender.result < length (arc_value c.self.inside.scene).apps = rw from ((connection_is _ c.self.invariant.faultless c.link.inside.0 can.link).from_app) in
    rw (← c.link.view_is) (wants_put _ _ _ _ _ _ _ c.self.invariant c.sender_of-sender.result c.index_mut-machine.result.now small c.index_mut-machine.ensures.value c.link.inside.0 from can)

pub invariant_of-self : goal.invariant_of-self
invariant_of-self c =
    let can = rw (← c.self.view_is, ← c.link.view_is) at c.requires in
    let from = rw (c.deref.ensures, ← c.link.view_is) at c.sender_of-sender.ensures in
    let did = rw (← c.link.view_is) at c.put.ensures in
    (put_next _ _ _ _ _ _ _ c.self.invariant c.link.inside.0 c.sender_of-sender.result c.index_mut-machine.result.now c.index_mut-ring.result.now c.index_mut-machine.ensures.value c.index_mut-ring.ensures.value can from c.put.new.self c.put.new.end c.put.result did).0

pub returns : goal.returns
returns c =
    let can = rw (← c.self.view_is, ← c.link.view_is) at c.requires in
    let from = rw (c.deref.ensures, ← c.link.view_is) at c.sender_of-sender.ensures in
    let did = rw (← c.link.view_is) at c.put.ensures in
    let done = put_next _ _ _ _ _ _ _ c.self.invariant c.link.inside.0 c.sender_of-sender.result c.index_mut-machine.result.now c.index_mut-ring.result.now c.index_mut-machine.ensures.value c.index_mut-ring.ensures.value can from c.put.new.self c.put.new.end c.put.result did in
    rw (← c.self.view_is, ← c.link.view_is) (ap (λ (t : Counts). record { scene = arc_value c.self.inside.scene; limits = c.self.inside.limits.items; counts = t; released = c.self.inside.released.items }) done.1)
