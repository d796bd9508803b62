use Rattle.std.proofs.Common.{◌≡◌, ◌++◌, drop, get_or}
use Rattle.std.specs.List.{flat_map}
use Rattle.index_maps.specs.Maps.{globals_of}
use Rattle.app_turn.specs.ByRank.{no_item}
use Rattle.app_turn.specs.Rows.{arrived_rows}
use Rattle.app_turn.proofs.by_rank.push_places.Given as goal

abbrev pub invariant-loop-at : goal.invariant-loop-at
invariant-loop-at l =
    l.rows ++ flat_map (λ i. arrived_rows l.place (globals_of l.ports l.place.rank) (get_or l.items i no_item)) (drop l.at-index l.places)
    ≡ l.initial.rows ++ flat_map (λ i. arrived_rows l.place (globals_of l.ports l.place.rank) (get_or l.items i no_item)) l.places
