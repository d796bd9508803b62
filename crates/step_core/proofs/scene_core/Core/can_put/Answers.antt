use Rattle.std.proofs.Common.{refl, ◌<◌, length, arith}
use Rattle.std.specs.Arc.{arc_value}
use Rattle.std.proofs.lemmas.List.{get_or_read}
use Rattle.scene_model.proofs.Faultless.{connection_is}
use Rattle.step_core.proofs.Tests.{can_put-iff, no_put}
use Rattle.step_core.proofs.scene_core.Core.can_put.Goals as goal

pub index-machine-requires : goal.index-machine-requires
index-machine-requires c =
    let link : c.link.inside.0 < length (arc_value c.self.inside.scene).links = omega (arith, c.if-place-len.false, c.len.ensures, c.self.invariant.rings_counted) in
    let from = rw (c.deref.ensures, ← c.link.view_is) at c.sender_of.ensures in
    omega (arith, from, (connection_is _ c.self.invariant.faultless c.link.inside.0 link).from_app, c.self.invariant.own.counted)

pub returns-else-wants_put : goal.returns-else-wants_put
returns-else-wants_put c =
    let link : c.link.inside.0 < length (arc_value c.self.inside.scene).links = omega (arith, c.if-place-len.false, c.len.ensures, c.self.invariant.rings_counted) in
    let from = rw (c.deref.ensures, ← c.link.view_is) at c.sender_of.ensures in
    let small : c.sender_of.result < length (arc_value c.self.inside.scene).apps = rw from ((connection_is _ c.self.invariant.faultless c.link.inside.0 link).from_app) in
    rw (← c.self.view_is, ← c.link.view_is) (no_put _ _ _ _ _ _ _ c.self.invariant c.sender_of.result c.index-machine.result.now small c.index-machine.ensures c.link.inside.0 from c.wants_put.result c.if-wants_put.false (rw (← c.link.view_is) at c.wants_put.ensures))

pub returns-then-wants_put : goal.returns-then-wants_put
returns-then-wants_put c =
    let wants = c.if-wants_put.ensures.0 refl in
    let link : c.link.inside.0 < length (arc_value c.self.inside.scene).links = omega (arith, c.if-place-len.false, c.len.ensures, c.self.invariant.rings_counted) in
    let limit = get_or_read c.self.inside.limits.items c.link.inside.0 c.index.result.now (omega (arith, link, c.self.invariant.planned.1.limits_counted)) c.index.ensures 0 in
    let from = rw (c.deref.ensures, ← c.link.view_is) at c.sender_of.ensures in
    rw (← c.self.view_is, ← c.link.view_is) (can_put-iff _ _ _ _ _ _ _ c.self.invariant c.link.inside.0 c.sender_of.result c.index-machine.result.now c.index-ring.result.now c.held.result c.index.result.now c.index-machine.ensures c.index-ring.ensures from c.held.ensures.held limit (rw (← c.link.view_is) at wants) link)
