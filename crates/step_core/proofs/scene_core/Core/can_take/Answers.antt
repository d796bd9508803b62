use Rattle.std.proofs.Common.{refl, ◌<◌, length, arith}
use Rattle.std.specs.Arc.{arc_value}
use Rattle.scene_model.proofs.Faultless.{connection_is}
use Rattle.step_core.proofs.Tests.{can_take-iff, no_take}
use Rattle.step_core.proofs.scene_core.Core.can_take.Goals as goal

pub index-machine-requires : goal.index-machine-requires
index-machine-requires c =
    let link : c.link.inside.0 < length (arc_value c.self.inside.scene).links = omega (arith, c.if-place-len.false, c.len.ensures, c.self.invariant.rings_counted) in
    let to = rw (c.deref.ensures, ← c.link.view_is) at c.receiver_of.ensures in
    omega (arith, to, (connection_is _ c.self.invariant.faultless c.link.inside.0 link).to_app, c.self.invariant.own.counted)

pub returns-else-wants_take : goal.returns-else-wants_take
returns-else-wants_take c =
    let link : c.link.inside.0 < length (arc_value c.self.inside.scene).links = omega (arith, c.if-place-len.false, c.len.ensures, c.self.invariant.rings_counted) in
    let to = rw (c.deref.ensures, ← c.link.view_is) at c.receiver_of.ensures in
    let small : c.receiver_of.result < length (arc_value c.self.inside.scene).apps = rw to ((connection_is _ c.self.invariant.faultless c.link.inside.0 link).to_app) in
    rw (← c.self.view_is, ← c.link.view_is) (no_take _ _ _ _ _ _ _ c.self.invariant c.receiver_of.result c.index-machine.result.now small c.index-machine.ensures c.link.inside.0 to c.wants_take.result c.if-wants_take.false (rw (← c.link.view_is) at c.wants_take.ensures))

pub returns-then-wants_take : goal.returns-then-wants_take
returns-then-wants_take c =
    let wants = c.if-wants_take.ensures.0 refl in
    let link : c.link.inside.0 < length (arc_value c.self.inside.scene).links = omega (arith, c.if-place-len.false, c.len.ensures, c.self.invariant.rings_counted) in
    let to = rw (c.deref.ensures, ← c.link.view_is) at c.receiver_of.ensures in
    rw (← c.self.view_is, ← c.link.view_is) (can_take-iff _ _ _ _ _ _ _ c.self.invariant c.link.inside.0 c.receiver_of.result c.index-machine.result.now c.index-ring.result.now c.held.result c.index-machine.ensures c.index-ring.ensures to c.held.ensures.held (rw (← c.link.view_is) at wants) link)
