use Rattle.step_core.proofs.Running.{opened_runs}
use Rattle.step_core.proofs.Sizes.{opened_size}
use Rattle.step_core.proofs.counted.run_counted.Goals as goal

pub drive-requires-clause-running : goal.drive-requires-clause-running
drive-requires-clause-running c = opened_runs c.args.scene.now c.args.plan.now.limits.items c.in_ok-core.core c.in_ok-core.ensures c.requires.fits.fits.limits_counted

pub drive-requires-clause-counted : goal.drive-requires-clause-counted
drive-requires-clause-counted c =
    opened_size c.args.scene.now c.args.plan.now.limits.items c.in_ok-core.core c.header_size.result c.in_ok-core.ensures c.header_size.ensures.rows c.header_size.ensures.bytes
