-- What an inbox for events delivers.
use Rattle.std.specs.Prelude.{ℕ, Bool, true, false, not, ◌&&◌, if◌then◌else◌, List, [], ◌∷◌, map, Option, None, Some}
use Rattle.std.specs.List.{filter_map, flat_map}
use Rattle.std.specs.declared.cmp.Ordering.{Ordering}
use Rattle.std.specs.Ordering.{ordering_then, nat_cmp}
use Rattle.music_base.specs.Numbers.{in_order}
use Rattle.music_base.specs.declared.item.Block.{Block}
use Rattle.music_base.specs.declared.item.Item.{Item}
use Rattle.music_base.specs.declared.item.Item.TheVariants.{Event}
use Rattle.event_routes.specs.Routing.{routed}
use Rattle.event_routes.specs.Routing.{Route}
use Rattle.event_routes.specs.declared.target.Target.{Target}
use Rattle.port_inbox.specs.Due.{falls_in}
use Rattle.port_inbox.specs.Inboxes.{Inbox, Line}
use Rattle.port_inbox.specs.declared.arrivals.Arrival.{Arrival}
use Rattle.port_inbox.specs.declared.arrivals.InboxLink.{InboxLink}

-- an arrival as an item, without its targets
abbrev pub event_of : Arrival → Item
event_of a = Event (record { time = a.time; global = a.global })

-- an arrival, with the places of the application and the port that sent it
pub record Waiting : Type 0 where
  pub arrival : Arrival
  pub app : ℕ
  pub port : ℕ

-- by time, global index, sender's place and sender's port place
abbrev pub waiting_cmp : Waiting → Waiting → Ordering
waiting_cmp x y =
    ordering_then (nat_cmp x.arrival.time y.arrival.time)
    (ordering_then (nat_cmp x.arrival.global y.arrival.global)
    (ordering_then (nat_cmp x.app y.app) (nat_cmp x.port y.port)))

abbrev pub no_targets : List Target → Bool
no_targets [] = true
no_targets (target ∷ targets) = false

-- what an event makes that is due in the step and whose index has targets
unfoldable pub waiting : ℕ → ℕ → ℕ → InboxLink → List Route → Item → Option Waiting
waiting start tick step link routes (Event e) =
    if falls_in start tick step link.latency e.time && not (no_targets (routed routes e.global))
    then Some (record { arrival = record { time = e.time; global = e.global; targets = routed routes e.global }; app = link.from_app; port = link.from_port })
    else None
waiting start tick step link routes _ = None

-- a connection with its routes
pub record EventLine : Type 0 where
  pub line : Line
  pub routes : List Route

-- connections beside their routes
abbrev pub paired : List Line → List (List Route) → List EventLine
paired [] routes = []
paired (line ∷ lines) [] = []
paired (line ∷ lines) (route ∷ routes) = record { line = line; routes = route } ∷ paired lines routes

-- what waits in the blocks of a connection, block by block
abbrev pub line_waiting : ℕ → ℕ → ℕ → EventLine → List Waiting
line_waiting start tick step l = flat_map (λ (block : Block). filter_map (waiting start tick step l.line.link l.routes) block.items) l.line.kept

-- what an inbox delivers in a step: what waits on all its connections, in order
unfoldable pub delivered : ℕ → Inbox → List Arrival
delivered step inbox =
    map (λ (w : Waiting). w.arrival) (in_order waiting_cmp (flat_map (line_waiting inbox.start inbox.tick step) (paired inbox.lines inbox.routes)))
