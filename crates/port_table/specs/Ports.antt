-- What the value of `ports` declares, or its first fault.
use Rattle.std.specs.Prelude.{◌≡◌, ⊤, ℕ, ◌+◌, Bool, true, ◌||◌, nat_le, if◌then◌else◌, List, [], ◌∷◌, length, codes, bytes_eq, Option, Some, None, unwrap_or, Result, Err}
use Rattle.std.specs.List.{list_any}
use Rattle.text_words.specs.Options.{◌>>=◌}
use Rattle.text_words.specs.Words.{declarations}
use Rattle.text_words.specs.OneWord.{name_in}
use Rattle.text_words.specs.InTurn.{in_turn, unless}
use Rattle.index_maps.specs.declared.map.PortMap.{PortMap}
use Rattle.scene_model.specs.Limits.{most_ports}
use Rattle.scene_model.specs.Ports.{output_twice}
use Rattle.scene_model.specs.declared.port.Direction.{Direction}
use Rattle.scene_model.specs.declared.port.Direction.TheVariants.{Output, Input}
use Rattle.scene_model.specs.declared.port.PortKind.{PortKind}
use Rattle.scene_model.specs.declared.port.PortKind.TheVariants.{Events, Values, Messages}
use Rattle.scene_model.specs.declared.port.PortDecl.{PortDecl}
use Rattle.port_table.specs.declared.fault.PortFault.{PortFault}
use Rattle.port_table.specs.declared.fault.PortFault.TheVariants.{PortText, MapRepeated, OutputTwice, Memory}
use Rattle.port_table.specs.declared.options.Options.{Options}
use Rattle.port_table.specs.MapWords.{map_in, map_repeat, message_map}
use Rattle.port_table.specs.Options.{options_in, no_options}

-- ---- the form of one declaration

abbrev pub direction_in : List ℕ → Option Direction
direction_in word = if bytes_eq word (codes "out") then Some Output else if bytes_eq word (codes "in") then Some Input else None

abbrev pub kind_in : List ℕ → Option PortKind
kind_in word =
    if bytes_eq word (codes "event") then Some Events
    else if bytes_eq word (codes "cont") then Some Values
    else if bytes_eq word (codes "message") then Some Messages else None

-- how a declaration begins: a direction, a kind and a name, and the words after these
abbrev pub heading_in : List (List ℕ) → Option (Direction × PortKind × List ℕ × List (List ℕ))
heading_in (direction ∷ kind ∷ name ∷ words) = do
  direction ← direction_in direction
  kind ← kind_in kind
  name ← name_in name
  Some (direction, kind, name, words)
heading_in _ = None

-- the map, and the words after it; a message port has none in its text
abbrev pub map_part : ℕ → Direction → PortKind → List (List ℕ) → Option (PortMap × List (List ℕ))
map_part np direction Messages words = Some (message_map np direction, words)
map_part np direction _ [] = None
map_part np direction _ (word ∷ words) = map_in np word >>= λ map. Some (map, words)

-- where an option does not stand, latency and delay are 0, and values are interpolated
abbrev pub port_with : List ℕ → Direction → PortKind → PortMap → Options → PortDecl
port_with name direction kind map options = record {
  name = name;
  direction = direction;
  kind = kind;
  map = map;
  latency = unwrap_or options.latency 0;
  delay = unwrap_or options.delay 0;
  interpolate = unwrap_or options.interpolate true;
  buffered = options.buffered;
}

-- a heading, a map, and options
unfoldable pub port_in : ℕ → List (List ℕ) → Option PortDecl
port_in np words = do
  heading ← heading_in words
  part ← map_part np heading.0 heading.1 heading.3
  options ← options_in heading.0 heading.1 no_options part.1
  Some (port_with heading.2 heading.0 heading.1 part.0 options)

-- ---- faults, in their order

-- an earlier declaration has the name, or there are as many as an application may have
abbrev pub is_beyond : List PortDecl → List ℕ → Bool
is_beyond before name = nat_le most_ports (length before) || list_any (λ (port : PortDecl). bytes_eq port.name name) before

-- the fault of a map at its place: an index twice in a list, or else one at two ranks
abbrev pub map_fault : ℕ → Option ℕ → Option ℕ → Option PortFault
map_fault place (Some index) _ = Some (MapRepeated place index)
map_fault place None (Some index) = Some (OutputTwice place index)
map_fault place None None = None

abbrev pub fault_of_map : ℕ → Direction → PortMap → Option PortFault
fault_of_map place direction map = map_fault place (map_repeat map) (output_twice direction map)

-- the fault of a port at its place, beside the ports before it
unfoldable pub fault_beside : List PortDecl → PortDecl → Option PortFault
fault_beside before port =
    if is_beyond before port.name then Some (PortText (length before + 1))
    else fault_of_map (length before + 1) port.direction port.map

-- the port of a declaration without a fault, or the first fault of it
abbrev pub beside : List PortDecl → Option PortDecl → Result PortDecl PortFault
beside before None = Err (PortText (length before + 1))
beside before (Some port) = unless (fault_beside before port) port

-- what a declaration gives beside the ports before it
unfoldable pub port_beside : ℕ → List PortDecl → List (List ℕ) → Result PortDecl PortFault
port_beside np before words = beside before (port_in np words)

-- the ports that a text declares, or the fault of its first faulty declaration
abbrev pub ports_of : ℕ → List ℕ → Result (List PortDecl) PortFault
ports_of np text = in_turn (port_beside np) [] (declarations text)

-- the reading has this fault; nothing is said of want of memory
abbrev pub IsFaultOf : {A : Type 0} → Result A PortFault → PortFault → Type 0
IsFaultOf reading Memory = ⊤
IsFaultOf reading fault = reading ≡ Err fault
