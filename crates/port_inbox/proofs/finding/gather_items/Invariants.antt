use Rattle.std.proofs.Common.{◌≡◌, ◌++◌, drop}
use Rattle.std.specs.List.{filter_map}
use Rattle.port_inbox.specs.Gathering.{found, is_in}
use Rattle.port_inbox.proofs.finding.gather_items.Given as goal

abbrev pub invariant-loop-item : goal.invariant-loop-item
invariant-loop-item l =
    l.out.items ++ filter_map (found (is_in l.window) l.line l.link) (drop l.item-index l.items) ≡ l.initial.out.items ++ filter_map (found (is_in l.window) l.line l.link) l.items
