-- The links that the connections of a text make, or the fault of the first faulty one.
use Rattle.std.specs.Prelude.{◌≡◌, ⊤, ℕ, Bool, false, not, if◌then◌else◌, List, [], length, bytes_eq, Option, Some, None, Result, Ok, Err}
use Rattle.std.specs.List.{list_any, position}
use Rattle.text_words.specs.InTurn.{◌>>=◌, some_or, unless, faults_as, in_turn}
use Rattle.config_text.specs.declared.link_text.LinkText.{LinkText}
use Rattle.scene_model.specs.Links.{app_of, output_of, input_of, directions_fit, width_fits, values_fit, same_input, same_ends}
use Rattle.scene_model.specs.Ports.{same_kind}
use Rattle.scene_model.specs.declared.port.PortDecl.{PortDecl}
use Rattle.scene_model.specs.declared.port.PortKind.{PortKind}
use Rattle.scene_model.specs.declared.port.PortKind.TheVariants.{Values}
use Rattle.scene_model.specs.declared.scene.AppDecl.{AppDecl}
use Rattle.scene_model.specs.declared.scene.Link.{Link}
use Rattle.port_match.specs.declared.fault.LinkKind.{LinkKind}
use Rattle.port_match.specs.declared.fault.LinkKind.TheVariants.{UnknownApp, UnknownPort, Direction, Kind, Width, Unmapped, PairTwice, ContTwice}
use Rattle.port_match.specs.declared.fault.MatchFault.{MatchFault}
use Rattle.port_match.specs.declared.fault.MatchFault.TheVariants as faults

-- ---- places

-- the place of the application of a name
abbrev pub app_place : List AppDecl → List ℕ → Option ℕ
app_place apps name = position (λ (app : AppDecl). bytes_eq app.name name) apps

-- the place of the port of a name
abbrev pub port_place : AppDecl → List ℕ → Option ℕ
port_place app name = position (λ (port : PortDecl). bytes_eq port.name name) app.ports

-- ---- the ends that a connection names

-- each end names an application, and a port of that one. Both applications are looked for first. What the connection states,
-- its link states
unfoldable pub ends_of : List AppDecl → LinkText → Result Link LinkKind
ends_of apps text = do
  a ← some_or (app_place apps text.from_app) UnknownApp
  b ← some_or (app_place apps text.to_app) UnknownApp
  p ← some_or (port_place (app_of apps a) text.from_port) UnknownPort
  q ← some_or (port_place (app_of apps b) text.to_port) UnknownPort
  Ok (record { from_app = a; from_port = p; to_app = b; to_port = q; width = text.width; latency = text.latency; buffered = text.buffered })

-- ---- earlier links

-- many links may lead to an event or a message input, and one to a continuous one
abbrev pub is_fed_by : PortKind → List Link → Link → Bool
is_fed_by Values before link = list_any (same_input link) before
is_fed_by _ before link = false

-- ---- the first fault

-- the first fault of a link between an output and an input, after the links before it
unfoldable pub fault_between : PortDecl → PortDecl → List Link → Link → Option LinkKind
fault_between output input before link =
    if not (directions_fit output.direction input.direction) then Some Direction
    else if not (same_kind output.kind input.kind) then Some Kind
    else if not (width_fits link.width output input) then Some Width
    else if not (values_fit input.kind output input) then Some Unmapped
    else if list_any (same_ends link) before then Some PairTwice
    else if is_fed_by input.kind before link then Some ContTwice else None

-- the same of a link whose ends stand
abbrev pub fault_after : List AppDecl → List Link → Link → Option LinkKind
fault_after apps before link = fault_between (output_of apps link) (input_of apps link) before link

-- the link that a connection makes after the links before it, or its first fault
unfoldable pub link_after : List AppDecl → List Link → LinkText → Result Link LinkKind
link_after apps before text = ends_of apps text >>= λ link. unless (fault_after apps before link) link

-- a fault stands at the place of its connection, from 0
abbrev pub link_at_place : List AppDecl → List Link → LinkText → Result Link MatchFault
link_at_place apps before text = faults_as (λ kind. faults.Link (length before) kind) (link_after apps before text)

-- the links that connections make, or the fault of the first faulty one
abbrev pub links_of : List AppDecl → List LinkText → Result (List Link) MatchFault
links_of apps texts = in_turn (link_at_place apps) [] texts

-- the reading has this fault; nothing is said of want of memory
abbrev pub IsFaultOf : {A : Type 0} → Result A MatchFault → MatchFault → Type 0
IsFaultOf reading faults.Memory = ⊤
IsFaultOf reading fault = reading ≡ Err fault
