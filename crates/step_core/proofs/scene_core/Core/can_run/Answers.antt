use Rattle.std.proofs.Common.{◌<◌, length, arith}
use Rattle.std.specs.Arc.{arc_value}
use Rattle.step_core.proofs.Tests.{can_run-iff}
use Rattle.step_core.proofs.scene_core.Core.can_run.Goals as goal

pub returns : goal.returns
returns c =
    let small : c.app.inside.0 < length (arc_value c.self.inside.scene).apps = omega (arith, c.if-place-len.false, c.len.ensures, c.self.invariant.own.counted) in
    rw (← c.self.view_is, ← c.app.view_is) (can_run-iff _ _ _ _ _ _ _ c.self.invariant c.app.inside.0 c.index-machine.result.now small c.index-machine.ensures c.wants_run.result c.wants_run.ensures)
