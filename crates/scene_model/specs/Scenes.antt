-- Applications, ports and connections by their places in the order of the text.
use Rattle.std.specs.Prelude.{ℕ, false, ◌==◌, ◌&&◌, List, [], length, slice_index_or, None}
use Rattle.std.specs.List.{filter}
use Rattle.music_base.specs.Numbers.{below}
use Rattle.index_maps.specs.declared.map.PortMap.TheVariants.{Each}
use Rattle.scene_model.specs.declared.scene.Scene.{Scene}
use Rattle.scene_model.specs.declared.scene.AppDecl.{AppDecl}
use Rattle.scene_model.specs.declared.scene.Link.{Link}
use Rattle.scene_model.specs.declared.port.PortDecl.{PortDecl}
use Rattle.scene_model.specs.declared.port.PortKind.TheVariants.{Events}
use Rattle.scene_model.specs.declared.port.Direction.TheVariants.{Output}

-- ---- look-ups

-- what stands past the end of a list does nothing: a port that maps nothing, an application without ports, which ticks
-- each nanosecond, and a connection
abbrev pub no_port : PortDecl
no_port = record {
  name = [];
  direction = Output;
  kind = Events;
  map = Each [];
  latency = 0;
  delay = 0;
  interpolate = false;
  buffered = None;
}

abbrev pub no_app : AppDecl
no_app = record { name = []; np = 0; start = 0; stop = 0; tick = 1; ports = []; rules = [] }

abbrev pub no_link : Link
no_link = record { from_app = 0; from_port = 0; to_app = 0; to_port = 0; width = None; latency = None; buffered = None }

-- application a, port p of application a, and connection c
abbrev pub app_at : Scene → ℕ → AppDecl
app_at scene a = slice_index_or scene.apps a no_app

abbrev pub port_at : Scene → ℕ → ℕ → PortDecl
port_at scene a p = slice_index_or (app_at scene a).ports p no_port

abbrev pub link_at : Scene → ℕ → Link
link_at scene c = slice_index_or scene.links c no_link

-- ---- the ends of a connection

-- the application that sends on a connection, and the one that receives
unfoldable pub sender : Scene → ℕ → ℕ
sender scene c = (link_at scene c).from_app

unfoldable pub receiver : Scene → ℕ → ℕ
receiver scene c = (link_at scene c).to_app

-- the output that a connection begins at, and the input that it leads to
abbrev pub output_of : Scene → ℕ → PortDecl
output_of scene c = port_at scene (sender scene c) (link_at scene c).from_port

abbrev pub input_of : Scene → ℕ → PortDecl
input_of scene c = port_at scene (receiver scene c) (link_at scene c).to_port

-- the connections to port p of application b, in the order of the text
abbrev pub links_to : Scene → ℕ → ℕ → List ℕ
links_to scene b p = filter (λ c. receiver scene c == b && (link_at scene c).to_port == p) (below (length scene.links))
