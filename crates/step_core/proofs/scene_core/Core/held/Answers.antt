use Rattle.std.proofs.Common.{◌∙◌, arith}
use Rattle.step_core.proofs.Tests.{lies_is}
use Rattle.step_core.proofs.scene_core.Core.held.Goals as goal

pub returns-clause-number : goal.returns-clause-number
returns-clause-number c =
    let link = rw (← c.self.view_is, ← c.link.view_is) at c.requires in
    rw (← c.self.view_is, ← c.link.view_is) (c.held.ensures.held ∙ lies_is _ _ _ _ _ _ _ c.self.invariant c.link.inside.0 c.index-ring.result.now link c.index-ring.ensures)

pub returns-clause-within : goal.returns-clause-within
returns-clause-within c =
    let link = rw (← c.self.view_is, ← c.link.view_is) at c.requires in
    let held = lies_is _ _ _ _ _ _ _ c.self.invariant c.link.inside.0 c.index-ring.result.now link c.index-ring.ensures in
    rw (← c.self.view_is, ← c.link.view_is) (omega (arith, c.held.ensures.held, held, (c.self.invariant.sound.on c.link.inside.0 link).kept))
