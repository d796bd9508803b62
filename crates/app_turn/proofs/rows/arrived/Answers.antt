use Rattle.std.proofs.Common.{Some, None}
use Rattle.index_maps.specs.Maps.{globals_of}
use Rattle.app_turn.proofs.RowParts.{differ, event_at}
use Rattle.app_turn.proofs.rows.arrived.Goals as goal

pub returns-in-Some : goal.returns-in-Some
returns-in-Some c =
    let globals = globals_of c.args.ports.now c.args.rank in
    rw c.in-Event.is (event_at globals c.in-Event.event.global c.in-Event.event.time (differ globals c.in-Some.ensures.indices) (Some c.in-Some.local) c.in-Some.ensures.place)

pub returns-in-None : goal.returns-in-None
returns-in-None c =
    let globals = globals_of c.args.ports.now c.args.rank in
    rw c.in-Event.is (event_at globals c.in-Event.event.global c.in-Event.event.time (differ globals c.in-None.ensures.indices) None c.in-None.ensures.place)
