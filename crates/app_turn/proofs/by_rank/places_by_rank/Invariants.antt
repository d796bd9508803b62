use Rattle.std.proofs.Common.{◌≡◌, ◌<◌, ℕ, [], length, get_or, take}
use Rattle.std.specs.List.{flat_map}
use Rattle.index_maps.specs.Maps.{globals_of, rank_count}
use Rattle.scene_model.specs.Logs.{arrived_at}
use Rattle.app_turn.specs.ByRank.{got_at}
use Rattle.app_turn.proofs.by_rank.places_by_rank.Given as goal

abbrev pub invariant-loop-place : goal.invariant-loop-place
invariant-loop-place l = record {
  counted : length l.lists.items ≡ rank_count l.map;
  got : (r : ℕ) → r < rank_count l.map → got_at (globals_of l.map r) l.items (get_or l.lists.items r []) ≡ flat_map (arrived_at (globals_of l.map r)) (take l.place l.items);
}
