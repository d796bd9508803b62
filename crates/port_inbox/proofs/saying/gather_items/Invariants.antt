use Rattle.std.proofs.Common.{◌≡◌, ◌++◌, drop}
use Rattle.std.specs.List.{filter_map}
use Rattle.port_inbox.specs.Gathering.{is_in, told}
use Rattle.port_inbox.proofs.saying.gather_items.Given as goal

abbrev pub invariant-loop-item : goal.invariant-loop-item
invariant-loop-item l =
    l.out.items ++ filter_map (told (is_in l.window) l.link) (drop l.item-index l.items) ≡ l.initial.out.items ++ filter_map (told (is_in l.window) l.link) l.items
