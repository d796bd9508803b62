use Rattle.std.proofs.Common.{◌≡◌, ◌==◌, ◌<◌, ◌++◌, ℕ, [], length, get_or, take}
use Rattle.std.specs.List.{position}
use Rattle.std.specs.Option.{option_to_list}
use Rattle.index_maps.specs.Maps.{globals_of}
use Rattle.event_routes.specs.Routing.{target_at}
use Rattle.event_routes.proofs.gathering.push_rank.Given as goal

abbrev pub invariant-loop-local : goal.invariant-loop-local
invariant-loop-local l = record {
  counted : length l.lists.items ≡ length l.initial.lists.items;
  targets : (g : ℕ) → g < length l.initial.lists.items
      → get_or l.lists.items g [] ≡ get_or l.initial.lists.items g [] ++ option_to_list (target_at l.rank (position (λ i. i == g) (take l.local (globals_of l.map l.rank))));
}
