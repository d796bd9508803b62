use Rattle.std.proofs.Common.{sym}
use Rattle.event_routes.proofs.LookUp.{last-end}
use Rattle.event_routes.proofs.routes.index_end.Goals as goal

pub returns-in-Some : goal.returns-in-Some
returns-in-Some c = last-end 0 c.args.intervals.now c.in-Some.last.now (sym c.in-Some.ensures.value)
