use Rattle.event_routes.proofs.Runs.{begun}
use Rattle.event_routes.proofs.joining.begin.Goals as goal

pub returns-clause-runs : goal.returns-clause-runs
returns-clause-runs c =
    let block = c.in_ok-of_index.field-0 in
    rw c.in_ok-push.ensures.items (begun c.args.blocks.now.items c.args.global c.args.targets.now c.requires.runs c.requires.limit c.requires.some block c.in_ok-of_index.ensures.block c.in_ok-of_index.ensures.interval c.in_ok-of_index.ensures.routes c.requires.breaks)
