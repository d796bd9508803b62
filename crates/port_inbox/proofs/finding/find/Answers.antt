use Rattle.std.proofs.Common.{◌≡◌, refl, ap, ◌∙◌, length}
use Rattle.std.specs.List.{filter_map, flat_map}
use Rattle.port_inbox.specs.Arrivals.{line_waiting, paired}
use Rattle.port_inbox.specs.Gathering.{waiting_found}
use Rattle.port_inbox.specs.Inboxes.{Inbox}
use Rattle.port_inbox.proofs.OverLines.{delivered_is}
use Rattle.port_inbox.proofs.finding.find.Goals as goal

pub returns : goal.returns
returns c routes counted =
    let inbox : Inbox = record c.args.lines.now { routes = routes } in
    let all = c.gather.new.out.items in
    let same : filter_map (waiting_found routes) all ≡ flat_map (line_waiting inbox.start inbox.tick c.args.step) (paired inbox.lines routes) =
    c.in_ok-gather.ensures routes (ap length c.as_slice.ensures ∙ counted) ∙ rw (c.clear.ensures.items, c.as_slice.ensures, c.start.ensures, c.tick.ensures.tick) refl in
    delivered_is c.args.step inbox all c.put_in_order.new.found.items same c.in_ok-put_in_order.ensures
