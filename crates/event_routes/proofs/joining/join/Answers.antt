use Rattle.std.proofs.Common.{[], get_or}
use Rattle.event_routes.specs.Routing.{route_to}
use Rattle.index_maps.specs.Cuts.{no_interval}
use Rattle.index_maps.proofs.CutSteps.{cuts-apart, cuts-at}
use Rattle.event_routes.proofs.Runs.{intervals-next, runs-later}
use Rattle.event_routes.proofs.joining.join.Goals as goal

pub push_interval-requires-clause-runs : goal.push_interval-requires-clause-runs
push_interval-requires-clause-runs c =
    let at = cuts-at 0 c.args.intervals.now c.loop-interval.interval-index no_interval (cuts-apart c.args.intervals.now c.requires.apart) c.loop-interval-test.true in
    runs-later c.loop-interval.blocks.items _ _ at.before c.loop-interval.invariant.runs

pub push_interval-requires-clause-some : goal.push_interval-requires-clause-some
push_interval-requires-clause-some c = (cuts-at 0 c.args.intervals.now c.loop-interval.interval-index no_interval (cuts-apart c.args.intervals.now c.requires.apart) c.loop-interval-test.true).some

pub loop-interval-preserved : goal.loop-interval-preserved
loop-interval-preserved c =
    let at = cuts-at 0 c.args.intervals.now c.loop-interval.interval-index no_interval (cuts-apart c.args.intervals.now c.requires.apart) c.loop-interval-test.true in
    let pushed = c.in_ok-push_interval.ensures in
    record {
      runs = rw at.after pushed.runs;
      routes = intervals-next (λ g. route_to g (get_or c.args.lists.now g [])) c.args.intervals.now c.loop-interval.interval-index no_interval _ _ c.loop-interval-test.true c.loop-interval.invariant.routes pushed.routes;
    }
