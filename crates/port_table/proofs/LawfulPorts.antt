-- The ports that a text declares are ports of a scene without a fault.
use Rattle.std.proofs.Common.{◌≡◌, ℕ, ◌+◌, ◌≤◌, Bool, true, false, List, [], ◌∷◌, ◌++◌, length, refl, ap, arith, length-append}
use Rattle.std.specs.Prelude.{Option, Some, None, IfSome, Ok, bytes_eq, nat_le, if◌then◌else◌}
use Rattle.std.specs.Int.{IsInRange}
use Rattle.std.specs.List.{list_any}
use Rattle.std.proofs.lemmas.Bool.{leb-false, or_parts}
use Rattle.music_base.specs.Names.{is_name}
use Rattle.music_base.specs.Times.{greatest_time}
use Rattle.music_base.proofs.Lists.{All-push, all_differ-push}
use Rattle.index_maps.specs.declared.map.PortMap.{PortMap}
use Rattle.text_words.specs.InTurn.{unless}
use Rattle.text_words.specs.Words.{declarations}
use Rattle.text_words.specs.OneWord.{name_in}
use Rattle.text_words.proofs.Options.{IfSome-after, IfSome-bind, IfSome-of, IfSome-when}
use Rattle.text_words.proofs.Turns.{in_turn-keeps}
use Rattle.scene_model.specs.Limits.{most_buffered, most_ports}
use Rattle.scene_model.specs.Ports.{ArePorts, HasMessageMap, IsPort, names_differ, output_twice}
use Rattle.scene_model.specs.Turns.{same_name}
use Rattle.scene_model.specs.declared.port.Direction.{Direction}
use Rattle.scene_model.specs.declared.port.PortKind.{PortKind}
use Rattle.scene_model.specs.declared.port.PortKind.TheVariants.{Events, Values, Messages}
use Rattle.scene_model.specs.declared.port.PortDecl.{PortDecl}
use Rattle.port_table.specs.MapWords.{map_in, map_repeat}
use Rattle.port_table.specs.Options.{no_options, options_in}
use Rattle.port_table.specs.Ports.{beside, direction_in, fault_beside, heading_in, is_beyond, kind_in, map_fault, map_part, port_beside, port_in, port_with, ports_of}
use Rattle.port_table.specs.declared.fault.PortFault.{PortFault}
use Rattle.port_table.specs.declared.fault.PortFault.TheVariants.{PortText}
use Rattle.port_table.specs.declared.options.Options.{Options}
use Rattle.port_table.proofs.LawfulMaps.{IsSpelled, has_indices-is, map_in-is, message_map-is, message_map-maps}
use Rattle.port_table.proofs.LawfulOptions.{AreOptions, none_are, options_in-are, stated_time}

-- ---- the form of one declaration

-- the map of a declaration, with the words after it
record HasMap (np : ℕ) (direction : Direction) (kind : PortKind) (part : PortMap × List (List ℕ)) : Type 0 where
  spelled : IsSpelled np part.0
  message : HasMessageMap kind direction part.0

map_part-is : (np : ℕ) (direction : Direction) (kind : PortKind) (words : List (List ℕ)) → 1 ≤ np → IfSome (map_part np direction kind words) (HasMap np direction kind)
map_part-is np direction Messages words some = record { spelled = message_map-is np direction some; message = message_map-maps np direction }
map_part-is np direction Events [] some = tt
map_part-is np direction Values [] some = tt
map_part-is np direction Events (word ∷ words) some = IfSome-bind (IsSpelled np) (HasMap np direction Events) _ (map_in np word) (map_in-is np word) (λ map is. record { spelled = is; message = tt })
map_part-is np direction Values (word ∷ words) some = IfSome-bind (IsSpelled np) (HasMap np direction Values) _ (map_in np word) (map_in-is np word) (λ map is. record { spelled = is; message = tt })

-- a port by itself: its map may still repeat an index
record IsDeclared (np : ℕ) (port : PortDecl) : Type 0 where
  name : is_name port.name ≡ true
  spelled : IsSpelled np port.map
  message : HasMessageMap port.kind port.direction port.map
  latency : port.latency ≤ greatest_time
  delay : port.delay ≤ greatest_time
  buffered : IfSome port.buffered (IsInRange 1 most_buffered)

port_with-is : (np : ℕ) (name : List ℕ) (direction : Direction) (kind : PortKind) (part : PortMap × List (List ℕ)) (options : Options)
    → is_name name ≡ true → HasMap np direction kind part → AreOptions options → IsDeclared np (port_with name direction kind part.0 options)
port_with-is np name direction kind part options named mapped are = record {
  name = named;
  spelled = mapped.spelled;
  message = mapped.message;
  latency = stated_time options.latency are.latency;
  delay = stated_time options.delay are.delay;
  buffered = are.buffered;
}

-- a direction, a kind, a name, and the words after them
abbrev Heading : Type 0
Heading = Direction × PortKind × List ℕ × List (List ℕ)

heading_in-is : (words : List (List ℕ)) → IfSome (heading_in words) (λ (h : Heading). is_name h.2 ≡ true)
heading_in-is [] = tt
heading_in-is (direction ∷ []) = tt
heading_in-is (direction ∷ kind ∷ []) = tt
heading_in-is (direction ∷ kind ∷ name ∷ words) =
    IfSome-after (λ (h : Heading). is_name h.2 ≡ true) _ (direction_in direction) (λ direction.
    IfSome-after (λ (h : Heading). is_name h.2 ≡ true) _ (kind_in kind) (λ kind.
    IfSome-bind (λ name. is_name name ≡ true) (λ (h : Heading). is_name h.2 ≡ true) _ (name_in name) (IfSome-when (λ name. is_name name ≡ true) name (is_name name) (λ is. is)) (λ name named. named)))

port_in-is : (np : ℕ) (words : List (List ℕ)) → 1 ≤ np → IfSome (port_in np words) (IsDeclared np)
unfolding port_in
port_in-is np words some =
    IfSome-bind (λ (h : Heading). is_name h.2 ≡ true) (IsDeclared np) _ (heading_in words) (heading_in-is words) (λ (h : Heading) named.
    IfSome-bind (HasMap np h.0 h.1) (IsDeclared np) _ (map_part np h.0 h.1 h.3) (map_part-is np h.0 h.1 h.3 some) (λ part mapped.
    IfSome-bind AreOptions (IsDeclared np) _ (options_in h.0 h.1 no_options part.1) (options_in-are h.0 h.1 no_options part.1 none_are) (λ options are.
    port_with-is np h.2 h.0 h.1 part options named mapped are)))

-- ---- beside other ports

-- no fault of a port in its form, beside these ports
record IsNew (before : List PortDecl) (port : PortDecl) : Type 0 where
  within : is_beyond before port.name ≡ false
  repeats_none : map_repeat port.map ≡ None
  shares_none : output_twice port.direction port.map ≡ None

no_map_fault : (place : ℕ) (repeat twice : Option ℕ) → map_fault place repeat twice ≡ None → (repeat ≡ None) × (twice ≡ None)
no_map_fault place None None none = (refl, refl)
no_map_fault place None (Some index) none = absurd cc
no_map_fault place (Some index) twice none = absurd cc

no_fault : (beyond : Bool) (place : ℕ) (fault : Option PortFault) → (if beyond then Some (PortText place) else fault) ≡ None → (beyond ≡ false) × (fault ≡ None)
no_fault true place fault none = absurd cc
no_fault false place fault none = (refl, none)

is_new : (before : List PortDecl) (port : PortDecl) → fault_beside before port ≡ None → IsNew before port
unfolding fault_beside
is_new before port none =
    let parts = no_fault (is_beyond before port.name) (length before + 1) (map_fault (length before + 1) (map_repeat port.map) (output_twice port.direction port.map)) none in
    let maps = no_map_fault (length before + 1) (map_repeat port.map) (output_twice port.direction port.map) parts.1 in
    record { within = parts.0; repeats_none = maps.0; shares_none = maps.1 }

-- a port that is given was declared, and has no fault
record IsGiven (before : List PortDecl) (declared : Option PortDecl) (port : PortDecl) : Type 0 where
  declares : declared ≡ Some port
  no_fault_there : fault_beside before port ≡ None

from_unless : (before : List PortDecl) (declared port : PortDecl) (fault : Option PortFault) → fault_beside before declared ≡ fault → unless fault declared ≡ Ok port → IsGiven before (Some declared) port
from_unless before declared port None is gave =
    let same : declared ≡ port = cc in
    record { declares = ap (λ (p : PortDecl). Some p) same; no_fault_there = rw same at is }
from_unless before declared port (Some fault) is gave = absurd cc

from_beside : (before : List PortDecl) (declared : Option PortDecl) (port : PortDecl) → beside before declared ≡ Ok port → IsGiven before declared port
from_beside before None port gave = absurd cc
from_beside before (Some declared) port gave = from_unless before declared port _ refl gave

-- ---- one after the other

one_more : (np : ℕ) (before : List PortDecl) (port : PortDecl) → ArePorts np before → IsDeclared np port → IsNew before port → ArePorts np (before ++ port ∷ [])
one_more np before port so_far is new =
    let beyond = or_parts (nat_le most_ports (length before)) (list_any (λ (other : PortDecl). bytes_eq other.name port.name) before) new.within in
    let room = leb-false most_ports (length before) beyond.0 in
    let lawful : IsPort np port = record {
      name = is.name;
      ranks = is.spelled.ranks;
      indices = has_indices-is port.map is.spelled.within new.repeats_none;
      once = new.shares_none;
      message = is.message;
      latency = is.latency;
      delay = is.delay;
      buffered = is.buffered;
    } in
    record {
      few = omega (arith, room, length-append before (port ∷ []));
      each = All-push (IsPort np) before port so_far.each lawful;
      differ = all_differ-push (λ (first : PortDecl) (other : PortDecl). same_name first.name other.name) before port so_far.differ beyond.1;
    }

kept : (np : ℕ) → 1 ≤ np → (before : List PortDecl) (words : List (List ℕ)) (port : PortDecl) → ArePorts np before → port_beside np before words ≡ Ok port → ArePorts np (before ++ port ∷ [])
unfolding port_beside
kept np some before words port so_far gave =
    let given = from_beside before (port_in np words) port gave in
    one_more np before port so_far (IfSome-of (IsDeclared np) (port_in np words) port (port_in-is np words some) given.declares) (is_new before port given.no_fault_there)

pub ports_of-are : (np : ℕ) (text : List ℕ) (ports : List PortDecl) → 1 ≤ np → ports_of np text ≡ Ok ports → ArePorts np ports
ports_of-are np text ports some gave =
    in_turn-keeps (port_beside np) (ArePorts np) (kept np some) (declarations text) [] ports (record { few = omega arith; each = tt; differ = refl }) gave

-- their names differ
pub ports_differ : (np : ℕ) (text : List ℕ) (ports : List PortDecl) → 1 ≤ np → ports_of np text ≡ Ok ports → names_differ ports ≡ true
ports_differ np text ports some gave = (ports_of-are np text ports some gave).differ
