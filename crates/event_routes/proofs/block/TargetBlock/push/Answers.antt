use Rattle.event_routes.proofs.RouteLists.{block-push}
use Rattle.event_routes.proofs.block.TargetBlock.push.Goals as goal

pub returns-clause-routes : goal.returns-clause-routes
returns-clause-routes c =
    let block = c.args.self.now in
    block-push block.interval.first block.interval.after block.ranks block.targets.items c.args.targets.now c.extend_from_slice.new.self.items c.requires.block.some c.requires.block.sized c.requires.ranks c.in_ok-extend_from_slice.ensures.items
