use Rattle.std.proofs.Common.{ap, ◌∙◌, ◌++◌, map, List}
use Rattle.std.specs.List.{filter_map}
use Rattle.music_base.specs.declared.item.Item.{Item}
use Rattle.port_inbox.specs.Arrivals.{event_of}
use Rattle.port_inbox.specs.Gathering.{arrival_found}
use Rattle.port_inbox.proofs.finding.deliver_events.Goals as goal

pub returns : goal.returns
returns c =
    c.in_ok-push_events.ensures
    ∙ ap (λ (before : List Item). before ++ map event_of (filter_map (arrival_found c.args.routes.now) c.deref.result.now)) c.clear.ensures.items
    ∙ ap (map event_of) (ap (filter_map (arrival_found c.args.routes.now)) c.deref.ensures.value ∙ c.in_ok-find.ensures c.args.routes.now c.requires)
