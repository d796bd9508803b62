-- Lawful links between the ports of applications.
use Rattle.std.specs.Prelude.{◌≡◌, ℕ, Bool, true, false, ◌&&◌, ◌==◌, nat_lt, List, length, slice_index_or, Option, Some, None, nat_le}
use Rattle.std.specs.Int.{is_in_range}
use Rattle.std.specs.List.{list_all}
use Rattle.music_base.specs.Numbers.{all_differ}
use Rattle.music_base.specs.Times.{greatest_time}
use Rattle.index_maps.specs.Maps.{indices, maps_index}
use Rattle.scene_model.specs.Limits.{greatest_width, most_buffered}
use Rattle.scene_model.specs.Ports.{same_kind}
use Rattle.scene_model.specs.Scenes.{no_app, no_port}
use Rattle.scene_model.specs.declared.port.Direction.{Direction}
use Rattle.scene_model.specs.declared.port.Direction.TheVariants.{Output, Input}
use Rattle.scene_model.specs.declared.port.PortKind.{PortKind}
use Rattle.scene_model.specs.declared.port.PortKind.TheVariants.{Values}
use Rattle.scene_model.specs.declared.port.PortDecl.{PortDecl}
use Rattle.scene_model.specs.declared.scene.AppDecl.{AppDecl}
use Rattle.scene_model.specs.declared.scene.Link.{Link}

-- ---- ends

-- application a
abbrev pub app_of : List AppDecl → ℕ → AppDecl
app_of apps a = slice_index_or apps a no_app

-- port p of an application
abbrev pub port_of : AppDecl → ℕ → PortDecl
port_of app p = slice_index_or app.ports p no_port

-- the port that a link begins at, and the one that it leads to
unfoldable pub output_of : List AppDecl → Link → PortDecl
output_of apps link = port_of (app_of apps link.from_app) link.from_port

unfoldable pub input_of : List AppDecl → Link → PortDecl
input_of apps link = port_of (app_of apps link.to_app) link.to_port

-- an application and a port of it stand at these places
abbrev pub has_end : List AppDecl → ℕ → ℕ → Bool
has_end apps a p = nat_lt a (length apps) && nat_lt p (length (app_of apps a).ports)

-- both ends of a link stand
unfoldable pub has_ends : List AppDecl → Link → Bool
has_ends apps link = has_end apps link.from_app link.from_port && has_end apps link.to_app link.to_port

-- ---- when an output and an input fit together

-- a connection leads from an output to an input
abbrev pub directions_fit : Direction → Direction → Bool
directions_fit Output Input = true
directions_fit _ _ = false

-- each index that some rank of the port maps is below the width
unfoldable pub maps_below : ℕ → PortDecl → Bool
maps_below width port = list_all (λ g. nat_lt g width) (indices port.map)

-- a width that is stated is above each index of either port
abbrev pub width_fits : Option ℕ → PortDecl → PortDecl → Bool
width_fits None output input = true
width_fits (Some width) output input = maps_below width output && maps_below width input

-- the output maps each index that the input maps
unfoldable pub covers : PortDecl → PortDecl → Bool
covers output input = list_all (maps_index output.map) (indices input.map)

-- each index that a continuous input reads, its output has a value of
abbrev pub values_fit : PortKind → PortDecl → PortDecl → Bool
values_fit Values output input = covers output input
values_fit _ output input = true

-- ---- a link

-- it leads from an output to an input
abbrev pub is_directed : List AppDecl → Link → Bool
is_directed apps link = directions_fit (output_of apps link).direction (input_of apps link).direction

-- both ends carry the same
abbrev pub is_of_one_kind : List AppDecl → Link → Bool
is_of_one_kind apps link = same_kind (output_of apps link).kind (input_of apps link).kind

-- neither end maps an index past a stated width
abbrev pub is_within_width : List AppDecl → Link → Bool
is_within_width apps link = width_fits link.width (output_of apps link) (input_of apps link)

-- a continuous input maps no index that its output does not
abbrev pub has_values : List AppDecl → Link → Bool
has_values apps link = values_fit (input_of apps link).kind (output_of apps link) (input_of apps link)

-- a stated width is from 1 up to the greatest one
abbrev pub is_width : Option ℕ → Bool
is_width None = true
is_width (Some width) = is_in_range 1 greatest_width width

-- a latency that is stated is at most the greatest time
abbrev pub is_latency : Option ℕ → Bool
is_latency None = true
is_latency (Some latency) = nat_le latency greatest_time

-- a number of blocks that is stated is from 1 up to the greatest one
abbrev pub is_buffered : Option ℕ → Bool
is_buffered None = true
is_buffered (Some blocks) = is_in_range 1 most_buffered blocks

-- what the link itself states lies within its limits
abbrev pub has_lawful_numbers : Link → Bool
has_lawful_numbers link = is_width link.width && is_latency link.latency && is_buffered link.buffered

-- ---- two links

-- both lead to the same port
abbrev pub same_input : Link → Link → Bool
same_input link other = (link.to_app == other.to_app) && (link.to_port == other.to_port)

-- both join the same two ports
abbrev pub same_ends : Link → Link → Bool
same_ends link other = (link.from_app == other.from_app) && (link.from_port == other.from_port) && same_input link other

abbrev pub is_continuous : PortKind → Bool
is_continuous Values = true
is_continuous _ = false

-- a later link leads to the same continuous input
abbrev pub feeds_again : List AppDecl → Link → Link → Bool
feeds_again apps link later = is_continuous (input_of apps later).kind && same_input link later

-- ---- all links

-- each joins two ports that fit together, no two join the same ports, and a continuous input has at most one
pub record AreLinks (apps : List AppDecl) (links : List Link) : Type 0 where
  pub with_ends : list_all (has_ends apps) links ≡ true
  pub directed : list_all (is_directed apps) links ≡ true
  pub of_one_kind : list_all (is_of_one_kind apps) links ≡ true
  pub within_width : list_all (is_within_width apps) links ≡ true
  pub with_values : list_all (has_values apps) links ≡ true
  pub pairs_once : all_differ same_ends links ≡ true
  pub continuous_once : all_differ (feeds_again apps) links ≡ true
