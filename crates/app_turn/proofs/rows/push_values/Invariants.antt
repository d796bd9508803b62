use Rattle.std.proofs.Common.{◌≡◌, ◌++◌, map}
use Rattle.music_base.specs.Numbers.{below}
use Rattle.index_maps.specs.Maps.{globals_of}
use Rattle.scene_model.specs.Tables.{value_in}
use Rattle.app_turn.specs.Rows.{value_row}
use Rattle.app_turn.proofs.rows.push_values.Given as goal

abbrev pub invariant-loop-local : goal.invariant-loop-local
invariant-loop-local l = l.rows ≡ l.initial.rows ++ map (value_row l.place (globals_of l.ports l.place.rank) (value_in l.items)) (below l.local)
