-- How what is due is found in kept blocks, as the code does it: times are compared, and what is found is put in order before
-- its targets are looked up.
use Rattle.std.specs.Prelude.{ℕ, max, Bool, false, ◌&&◌, nat_le, nat_lt, if◌then◌else◌, List, [], ◌∷◌, slice_index_or, Option, None, Some}
use Rattle.std.specs.List.{AllByRecursion, filter_map, flat_map}
use Rattle.std.specs.declared.cmp.Ordering.{Ordering}
use Rattle.std.specs.Ordering.{ordering_then, nat_cmp}
use Rattle.music_base.specs.declared.item.Block.{Block}
use Rattle.music_base.specs.declared.item.Item.{Item}
use Rattle.music_base.specs.declared.item.Item.TheVariants.{Event, Message, Value}
use Rattle.scene_model.specs.Tables.{Sent}
use Rattle.event_routes.specs.Routing.{Route, routed}
use Rattle.event_routes.specs.declared.target.Target.{Target}
use Rattle.port_inbox.specs.Arrivals.{Waiting, no_targets}
use Rattle.port_inbox.specs.Due.{AreShort}
use Rattle.port_inbox.specs.declared.arrivals.Arrival.{Arrival}
use Rattle.port_inbox.specs.declared.arrivals.InboxLink.{InboxLink}
use Rattle.port_inbox.specs.declared.finding.Found.{Found}
use Rattle.port_inbox.specs.declared.saying.Said.{Said}
use Rattle.port_inbox.specs.declared.window.Window.{Window}

-- ---- times

-- when an event or a message was sent. A value has no time of its own
abbrev pub sent_at : Item → Option ℕ
sent_at (Event e) = Some e.time
sent_at (Message m) = Some m.time
sent_at (Value global value) = None

-- the later of two times, where there are any
abbrev pub later_of : Option ℕ → Option ℕ → Option ℕ
later_of None y = y
later_of (Some x) None = Some x
later_of (Some x) (Some y) = Some (max x y)

abbrev pub latest_of : List Item → Option ℕ
latest_of [] = None
latest_of (item ∷ items) = later_of (sent_at item) (latest_of items)

-- a time that is there is not before another
abbrev pub is_time_from : ℕ → Option ℕ → Bool
is_time_from from None = false
is_time_from from (Some time) = nat_le from time

-- an event or a message was sent at a time or later
abbrev pub comes_from : ℕ → Item → Bool
comes_from from item = is_time_from from (sent_at item)

-- a time lies in a window
abbrev pub is_in : Window → ℕ → Bool
is_in window time = nat_le window.from time && nat_lt time window.to

-- an event or a message was sent in a window
abbrev pub comes_in : Window → Item → Bool
comes_in window (Event e) = is_in window e.time
comes_in window (Message m) = is_in window m.time
comes_in window (Value global value) = false

abbrev pub AreAllShort : List Block → Type 0
AreAllShort = AllByRecursion (λ (block : Block). AreShort block.items)

-- ---- events

-- an event whose time passes the test, with the place of its connection in the inbox
abbrev pub found : (ℕ → Bool) → ℕ → InboxLink → Item → Option Found
found test line link (Event e) =
    if test e.time
    then Some (record { time = e.time; global = e.global; app = link.from_app; port = link.from_port; line = line })
    else None
found test line link _ = None

abbrev pub blocks_found : (ℕ → Bool) → ℕ → InboxLink → List Block → List Found
blocks_found test line link blocks = flat_map (λ (block : Block). filter_map (found test line link) block.items) blocks

-- by sender's place and sender's port place
abbrev pub sender_cmp : Found → Found → Ordering
sender_cmp x y = ordering_then (nat_cmp x.app y.app) (nat_cmp x.port y.port)

-- of one time: by global index, and then by sender
abbrev pub at_once_cmp : Found → Found → Ordering
at_once_cmp x y = ordering_then (nat_cmp x.global y.global) (sender_cmp x y)

-- by time, global index, sender's place and sender's port place
abbrev pub found_cmp : Found → Found → Ordering
found_cmp x y = ordering_then (nat_cmp x.time y.time) (at_once_cmp x y)

-- the targets that the routes of its connection have
abbrev pub targets_found : List (List Route) → Found → List Target
targets_found routes f = routed (slice_index_or routes f.line []) f.global

-- the arrival that it makes, where there are any
abbrev pub arrival_found : List (List Route) → Found → Option Arrival
arrival_found routes f =
    if no_targets (targets_found routes f)
    then None
    else Some (record { time = f.time; global = f.global; targets = targets_found routes f })

-- the same with the places of its sender
abbrev pub waiting_found : List (List Route) → Found → Option Waiting
waiting_found routes f =
    if no_targets (targets_found routes f)
    then None
    else Some (record { arrival = record { time = f.time; global = f.global; targets = targets_found routes f }; app = f.app; port = f.port })

-- ---- messages

abbrev pub told : (ℕ → Bool) → InboxLink → Item → Option Said
told test link (Message m) =
    if test m.time
    then Some (record { heard = record { time = m.time; word = m.word }; app = link.from_app; port = link.from_port })
    else None
told test link _ = None

abbrev pub blocks_told : (ℕ → Bool) → InboxLink → List Block → List Said
blocks_told test link blocks = flat_map (λ (block : Block). filter_map (told test link) block.items) blocks

abbrev pub said_cmp : Said → Said → Ordering
said_cmp x y = ordering_then (nat_cmp x.heard.time y.heard.time) (ordering_then (nat_cmp x.app y.app) (nat_cmp x.port y.port))

abbrev pub sent_said : Said → Sent
sent_said s = record { item = Message (record { time = s.heard.time; word = s.heard.word }); app = s.app; port = s.port }
