use Rattle.std.proofs.Common.{[], get_or, arith}
use Rattle.event_routes.specs.Routing.{route_to}
use Rattle.event_routes.proofs.Runs.{routes-next}
use Rattle.event_routes.proofs.joining.push_interval.Goals as goal

pub loop-global-preserved : goal.loop-global-preserved
loop-global-preserved c =
    let pushed = c.in_ok-push_listed.ensures in
    record {
      runs = pushed.runs;
      routes = routes-next (λ g. route_to g (get_or c.args.lists.now g [])) _ _ _ c.args.interval.first c.loop-global.global (omega arith) c.loop-global.invariant.routes pushed.routes;
    }
