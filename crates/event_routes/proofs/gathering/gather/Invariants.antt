use Rattle.std.proofs.Common.{◌≡◌, ◌<◌, ◌≤◌, ℕ, [], length, get_or}
use Rattle.std.specs.List.{filter_map}
use Rattle.music_base.specs.Numbers.{below}
use Rattle.event_routes.specs.Routing.{target_on}
use Rattle.index_maps.specs.declared.span.TheConstants.{INDEX_LIMIT}
use Rattle.event_routes.proofs.gathering.gather.Given as goal

abbrev pub invariant-loop-rank : goal.invariant-loop-rank
invariant-loop-rank l = record {
  counted : length l.lists.items ≡ length l.initial.lists.items;
  targets : (g : ℕ) → g < length l.lists.items → get_or l.lists.items g [] ≡ filter_map (target_on l.map g) (below l.rank);
  far : (g : ℕ) → INDEX_LIMIT ≤ g → filter_map (target_on l.map g) (below l.rank) ≡ [];
}
