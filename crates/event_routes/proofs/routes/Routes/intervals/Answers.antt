use Rattle.event_routes.proofs.LookUp.{run_count-few}
use Rattle.event_routes.proofs.routes.Routes.intervals.Goals as goal

pub returns-clause-few : goal.returns-clause-few
returns-clause-few c = run_count-few c.args.self.now
