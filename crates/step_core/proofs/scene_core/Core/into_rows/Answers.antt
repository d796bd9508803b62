use Rattle.step_core.proofs.NextClocks.{all_below}
use Rattle.step_core.proofs.Releases.{all_held}
use Rattle.step_core.proofs.scene_core.Core.into_rows.Goals as goal

pub returns : goal.returns
returns c =
    let all = all_held _ _ _ _ _ _ _ c.self.invariant _ (all_below _ _ _ _ _ _ _ c.self.invariant) in
    rw (← c.self.view_is) (rw all at c.release.ensures.released)
