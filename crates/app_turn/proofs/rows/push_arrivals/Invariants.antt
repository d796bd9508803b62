use Rattle.std.proofs.Common.{◌≡◌, ◌++◌, drop}
use Rattle.std.specs.List.{flat_map}
use Rattle.index_maps.specs.Maps.{globals_of}
use Rattle.app_turn.specs.Rows.{arrived_rows}
use Rattle.app_turn.proofs.rows.push_arrivals.Given as goal

abbrev pub invariant-loop-item : goal.invariant-loop-item
invariant-loop-item l =
    l.rows ++ flat_map (arrived_rows l.place (globals_of l.ports l.place.rank)) (drop l.item-index l.items)
    ≡ l.initial.rows ++ flat_map (arrived_rows l.place (globals_of l.ports l.place.rank)) l.items
