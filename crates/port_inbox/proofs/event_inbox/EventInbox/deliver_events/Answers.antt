use Rattle.std.proofs.Common.{ap, ◌∙◌, map, List}
use Rattle.event_routes.specs.Routing.{Route}
use Rattle.port_inbox.specs.Arrivals.{delivered, event_of}
use Rattle.port_inbox.proofs.Delivering.{heard_is}
use Rattle.port_inbox.proofs.event_inbox.EventInbox.deliver_events.Goals as goal

pub returns-clause-heard : goal.returns-clause-heard
returns-clause-heard c scene b p table fed =
    c.in_ok-deliver_events.ensures
    ∙ ap (map event_of)
    (ap (λ (routes : List (List Route)). delivered c.args.step (record c.self.inside.lines { routes = routes })) c.deref.ensures.value
    ∙ ap (delivered c.args.step) c.self.view_is ∙ heard_is scene b p table c.args.step c.args.self.now fed)
