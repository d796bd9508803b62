use Rattle.std.proofs.Common.{◌<◌, length, ap, ◌∙◌, arith}
use Rattle.std.specs.Arc.{arc_value}
use Rattle.scene_model.specs.Orders.{Counts}
use Rattle.scene_model.proofs.Faultless.{connection_is}
use Rattle.step_core.proofs.Takes.{gives_next, took_next, unmoved}
use Rattle.step_core.proofs.Tests.{wants_take}
use Rattle.step_core.proofs.Results.{on_err}
use Rattle.step_core.proofs.scene_core.Core.take.Goals as goal

pub index_mut-machine-requires : goal.index_mut-machine-requires
index_mut-machine-requires c =
    let can = rw (← c.self.view_is) at c.requires in
    let to = rw c.deref.ensures at c.receiver_of-receiver.ensures in
    omega (arith, to, (connection_is _ c.self.invariant.faultless c.args.link can.link).to_app, c.self.invariant.own.counted)

pub take-requires-clause-wants : goal.take-requires-clause-wants
take-requires-clause-wants c =
    let can = rw (← c.self.view_is, ← c.link.view_is) at c.requires in
    let to = rw (c.deref.ensures, ← c.link.view_is) at c.receiver_of-receiver.ensures in
    let small : c.receiver_of-receiver.result < length (arc_value c.self.inside.scene).apps = rw to ((connection_is _ c.self.invariant.faultless c.link.inside.0 can.link).to_app) in
    rw (← c.link.view_is) (wants_take _ _ _ _ _ _ _ c.self.invariant c.receiver_of-receiver.result c.index_mut-machine.result.now small c.index_mut-machine.ensures.value c.link.inside.0 to can)

pub take-requires-clause-gives : goal.take-requires-clause-gives
take-requires-clause-gives c =
    let can = rw (← c.self.view_is, ← c.link.view_is) at c.requires in
    let to = rw (c.deref.ensures, ← c.link.view_is) at c.receiver_of-receiver.ensures in
    let small : c.receiver_of-receiver.result < length (arc_value c.self.inside.scene).apps = rw to ((connection_is _ c.self.invariant.faultless c.link.inside.0 can.link).to_app) in
    rw (← c.link.view_is) (gives_next _ _ _ _ _ _ _ c.self.invariant c.link.inside.0 c.receiver_of-receiver.result c.index_mut-machine.result.now c.index_mut-ring.result.now can.link small c.index_mut-machine.ensures.value c.index_mut-ring.ensures.value can to)

pub invariant_of-self : goal.invariant_of-self
invariant_of-self c =
    let can = rw (← c.self.view_is, ← c.link.view_is) at c.requires in
    let to = rw (c.deref.ensures, ← c.link.view_is) at c.receiver_of-receiver.ensures in
    let small : c.receiver_of-receiver.result < length (arc_value c.self.inside.scene).apps = rw to ((connection_is _ c.self.invariant.faultless c.link.inside.0 can.link).to_app) in
    (unmoved _ _ _ _ _ _ _ c.self.invariant c.link.inside.0 c.receiver_of-receiver.result c.index_mut-machine.result.now c.index_mut-ring.result.now can.link small c.index_mut-machine.ensures.value c.index_mut-ring.ensures.value c.take.new.self c.take.new.end c.in_err-take.ensures.1 c.in_err-take.ensures.0).0

pub returns-in_err-take-clause-err : goal.returns-in_err-take-clause-err
returns-in_err-take-clause-err c =
    let can = rw (← c.self.view_is, ← c.link.view_is) at c.requires in
    let to = rw (c.deref.ensures, ← c.link.view_is) at c.receiver_of-receiver.ensures in
    let small : c.receiver_of-receiver.result < length (arc_value c.self.inside.scene).apps = rw to ((connection_is _ c.self.invariant.faultless c.link.inside.0 can.link).to_app) in
    let kept = unmoved _ _ _ _ _ _ _ c.self.invariant c.link.inside.0 c.receiver_of-receiver.result c.index_mut-machine.result.now c.index_mut-ring.result.now can.link small c.index_mut-machine.ensures.value c.index_mut-ring.ensures.value c.take.new.self c.take.new.end c.in_err-take.ensures.1 c.in_err-take.ensures.0 in
    on_err _ _ (ap (λ (t : Counts). record { scene = arc_value c.self.inside.scene; limits = c.self.inside.limits.items; counts = t; released = c.self.inside.released.items }) kept.1 ∙ c.self.view_is)

pub invariant_of-self-2 : goal.invariant_of-self-2
invariant_of-self-2 c =
    let can = rw (← c.self.view_is, ← c.link.view_is) at c.requires in
    let to = rw (c.deref.ensures, ← c.link.view_is) at c.receiver_of-receiver.ensures in
    let small : c.receiver_of-receiver.result < length (arc_value c.self.inside.scene).apps = rw to ((connection_is _ c.self.invariant.faultless c.link.inside.0 can.link).to_app) in
    let did = rw (← c.link.view_is) at c.in_ok-take.ensures in
    (took_next _ _ _ _ _ _ _ c.self.invariant c.link.inside.0 c.receiver_of-receiver.result c.index_mut-machine.result.now c.index_mut-ring.result.now can.link small c.index_mut-machine.ensures.value c.index_mut-ring.ensures.value can to c.take.new.self c.take.new.end c.in_ok-take.field-0 did).0

pub returns-clause-ok : goal.returns-clause-ok
returns-clause-ok c =
    let can = rw (← c.self.view_is, ← c.link.view_is) at c.requires in
    let to = rw (c.deref.ensures, ← c.link.view_is) at c.receiver_of-receiver.ensures in
    let small : c.receiver_of-receiver.result < length (arc_value c.self.inside.scene).apps = rw to ((connection_is _ c.self.invariant.faultless c.link.inside.0 can.link).to_app) in
    let did = rw (← c.link.view_is) at c.in_ok-take.ensures in
    let done = took_next _ _ _ _ _ _ _ c.self.invariant c.link.inside.0 c.receiver_of-receiver.result c.index_mut-machine.result.now c.index_mut-ring.result.now can.link small c.index_mut-machine.ensures.value c.index_mut-ring.ensures.value can to c.take.new.self c.take.new.end c.in_ok-take.field-0 did in
    rw (← c.self.view_is, ← c.link.view_is) (ap (λ (t : Counts). record { scene = arc_value c.self.inside.scene; limits = c.self.inside.limits.items; counts = t; released = c.self.inside.released.items }) done.1)
