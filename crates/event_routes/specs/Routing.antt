-- To which ranks of a receiver an index goes that its sender maps.
use Rattle.std.specs.Prelude.{ℕ, ◌+◌, ◌≡◌, ◌==◌, ◌&&◌, Bool, true, false, if◌then◌else◌, List, [], ◌∷◌, Option, None, Some}
use Rattle.std.specs.List.{filter_map, flat_map, position}
use Rattle.music_base.specs.Numbers.{below}
use Rattle.index_maps.specs.Maps.{globals_of, indices, maps_index, rank_count}
use Rattle.index_maps.specs.declared.map.PortMap.{PortMap}
use Rattle.event_routes.specs.declared.target.Target.{Target}

-- ---- one index

abbrev pub target_at : ℕ → Option ℕ → Option Target
target_at r None = None
target_at r (Some local) = Some (record { rank = r; local = local })

-- a rank, with the local place of the index there
abbrev pub target_on : PortMap → ℕ → ℕ → Option Target
target_on map g r = target_at r (position (λ i. i == g) (globals_of map r))

-- the ranks that map the index, ascending, each with the index's local place
unfoldable pub targets_of : PortMap → ℕ → List Target
targets_of map g = filter_map (target_on map g) (below (rank_count map))

-- ---- all indices

-- an index, and its targets
pub record Route : Type 0 where
  pub global : ℕ
  pub targets : List Target

-- what routes have for the index
abbrev pub routed : List Route → ℕ → List Target
routed [] g = []
routed (route ∷ routes) g = if route.global == g then route.targets else routed routes g

-- routes from one map to another: the receiver's targets of each index that the sender maps, and of no other
abbrev pub AreRoutes : PortMap → PortMap → List Route → Type 0
AreRoutes sender receiver routes = (g : ℕ) → routed routes g ≡ (if maps_index sender g then targets_of receiver g else [])

-- the route of an index, where it has a target
abbrev pub route_to : ℕ → List Target → List Route
route_to g [] = []
route_to g (target ∷ targets) = record { global = g; targets = target ∷ targets } ∷ []

-- the routes from one map to another, one for each index that both have, ascending
unfoldable pub routes_of : PortMap → PortMap → List Route
routes_of sender receiver = flat_map (λ g. route_to g (targets_of receiver g)) (indices sender)

-- ---- runs of consecutive indices at the same ranks

abbrev pub same_ranks : List Target → List Target → Bool
same_ranks [] [] = true
same_ranks (x ∷ xs) (y ∷ ys) = (x.rank == y.rank) && same_ranks xs ys
same_ranks _ _ = false

-- a route is of the next index, and leads to the same ranks
abbrev pub goes_on : Route → Route → Bool
goes_on before route = (before.global + 1 == route.global) && same_ranks before.targets route.targets

-- how many routes do not go on with the one before them
abbrev pub breaks_behind : Route → List Route → ℕ
breaks_behind before [] = 0
breaks_behind before (route ∷ routes) = (if goes_on before route then 0 else 1) + breaks_behind route routes

-- how many runs there are: maximal intervals of indices that go to the same ranks
abbrev pub run_count : List Route → ℕ
run_count [] = 0
run_count (route ∷ routes) = 1 + breaks_behind route routes
