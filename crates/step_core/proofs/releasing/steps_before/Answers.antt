use Rattle.std.proofs.Common.{◌∙◌}
use Rattle.step_core.proofs.NextClocks.{steps_counted_by}
use Rattle.step_core.proofs.releasing.steps_before.Goals as goal

pub returns : goal.returns
returns c =
    steps_counted_by c.args.scene.now c.requires.faultless c.args.app _ _ c.args.least _ _ c.steps_of.result
    (c.decl.view_is ∙ c.app-decl.ensures) c.least.view_is c.min-end.ensures c.saturating_sub.ensures c.steps_of.ensures.made
