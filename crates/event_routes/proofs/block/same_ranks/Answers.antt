use Rattle.std.proofs.Common.{arith}
use Rattle.event_routes.proofs.RouteLists.{same_ranks-other_length}
use Rattle.event_routes.proofs.block.same_ranks.Goals as goal

pub returns-then-targets-others : goal.returns-then-targets-others
returns-then-targets-others c = same_ranks-other_length c.args.targets.now c.args.others.now (omega arith)
