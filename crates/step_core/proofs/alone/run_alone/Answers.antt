use Rattle.std.proofs.Common.{◌∙◌, ap}
use Rattle.step_core.specs.Cores.{CoreView}
use Rattle.step_core.proofs.Running.{held_when_done}
use Rattle.step_core.proofs.alone.run_alone.Goals as goal

pub returns-clause-rows : goal.returns-clause-rows
returns-clause-rows c =
    held_when_done c.args.scene.now c.in_ok-core.core.limits c.drive.new.acts c.drive.new.core c.in_ok-drive.ensures.done
    (c.in_ok-drive.ensures.kept ∙ ap (λ (x : CoreView). x.released) c.in_ok-core.ensures)
