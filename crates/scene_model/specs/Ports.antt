-- Lawful ports.
use Rattle.std.specs.Prelude.{◌≡◌, ⊤, ℕ, zero, suc, ◌<◌, ◌≤◌, Bool, true, false, List, [], ◌∷◌, length, Option, None, IfSome}
use Rattle.std.specs.Int.{IsInRange}
use Rattle.std.specs.List.{list_all, AllByRecursion}
use Rattle.music_base.specs.Names.{is_name}
use Rattle.music_base.specs.Numbers.{below, all_differ}
use Rattle.music_base.specs.Times.{greatest_time}
use Rattle.index_maps.specs.Indices.{are_indices}
use Rattle.index_maps.specs.Intervals.{first_shared}
use Rattle.index_maps.specs.Maps.{globals_of, rank_count}
use Rattle.index_maps.specs.declared.map.PortMap.{PortMap}
use Rattle.scene_model.specs.Limits.{most_buffered, most_ports}
use Rattle.scene_model.specs.Turns.{same_name}
use Rattle.scene_model.specs.declared.port.Direction.{Direction}
use Rattle.scene_model.specs.declared.port.Direction.TheVariants.{Output, Input}
use Rattle.scene_model.specs.declared.port.PortKind.{PortKind}
use Rattle.scene_model.specs.declared.port.PortKind.TheVariants.{Events, Values, Messages}
use Rattle.scene_model.specs.declared.port.PortDecl.{PortDecl}

-- ---- directions and kinds

abbrev pub same_direction : Direction → Direction → Bool
same_direction Output Output = true
same_direction Input Input = true
same_direction _ _ = false

-- both carry the same
abbrev pub same_kind : PortKind → PortKind → Bool
same_kind Events Events = true
same_kind Values Values = true
same_kind Messages Messages = true
same_kind _ _ = false

-- ---- maps

-- what a rank of a message port maps: of an output index 0 at rank 0 and nothing at the other ranks, of an input index 0 at
-- each rank
abbrev pub message_indices : Direction → ℕ → List ℕ
message_indices Output zero = 0 ∷ []
message_indices Output (suc r) = []
message_indices Input r = 0 ∷ []

-- the map of a message port maps this, in whatever form it is stated; events and values may have any map
abbrev pub HasMessageMap : PortKind → Direction → PortMap → Type 0
HasMessageMap Messages direction map = (r : ℕ) → r < rank_count map → globals_of map r ≡ message_indices direction r
HasMessageMap _ direction map = ⊤

-- each rank maps global indices, and none twice
abbrev pub has_indices : PortMap → Bool
has_indices map = list_all (λ r. are_indices (globals_of map r)) (below (rank_count map))

-- the least index that two ranks of an output map; an input may map an index at many ranks
abbrev pub output_twice : Direction → PortMap → Option ℕ
output_twice Output map = first_shared map
output_twice Input map = None

-- ---- ports

-- A port of an application of np processes: its map has a map for each of its ranks, and its numbers lie within their
-- limits. Times are in ns.
pub record IsPort (np : ℕ) (port : PortDecl) : Type 0 where
  pub name : is_name port.name ≡ true
  pub ranks : rank_count port.map ≡ np
  pub indices : has_indices port.map ≡ true
  pub once : output_twice port.direction port.map ≡ None
  pub message : HasMessageMap port.kind port.direction port.map
  pub latency : port.latency ≤ greatest_time
  pub delay : port.delay ≤ greatest_time
  pub buffered : IfSome port.buffered (IsInRange 1 most_buffered)

-- no two ports have one name
abbrev pub names_differ : List PortDecl → Bool
names_differ = all_differ (λ (port : PortDecl) (other : PortDecl). same_name port.name other.name)

-- all ports of such an application
pub record ArePorts (np : ℕ) (ports : List PortDecl) : Type 0 where
  pub few : length ports ≤ most_ports
  pub each : AllByRecursion (IsPort np) ports
  pub differ : names_differ ports ≡ true
