-- What stands at the ports of an application, and what contracts see of it.
use Rattle.std.specs.Prelude.{ℕ, ◌≤◌, ◌<◌, ◌≡◌, ◌==◌, ◌⊎◌, ⊤, Bool, if◌then◌else◌, List, [], length, map, slice_index, slice_index_or, slice_set}
use Rattle.std.specs.List.{AllByRecursion}
use Rattle.music_base.specs.Numbers.{below}
use Rattle.music_base.specs.Pairs.{AllPaired}
use Rattle.music_base.specs.declared.item.Item.{Item}
use Rattle.music_base.specs.declared.item.Item.TheVariants.{Message}
use Rattle.music_base.specs.declared.item.Block.{Block}
use Rattle.scene_model.specs.Clocks.{wanted}
use Rattle.scene_model.specs.Due.{is_due_from}
use Rattle.scene_model.specs.Orders.{EachTo}
use Rattle.scene_model.specs.Scenes.{app_at, input_of, link_at, links_to, port_at, receiver, sender}
use Rattle.scene_model.specs.Tables.{Table, steps_of}
use Rattle.scene_model.specs.declared.scene.Scene.{Scene}
use Rattle.scene_model.specs.declared.port.PortKind.{PortKind}
use Rattle.scene_model.specs.declared.port.PortKind.TheVariants.{Events, Values, Messages}
use Rattle.scene_model.specs.declared.port.Direction.TheVariants.{Output, Input}
use Rattle.port_inbox.specs.Due.{left_in}
use Rattle.port_inbox.specs.Holding.{HasLinesOf, HasWanted, HoldsFrom, IsRoutesOf}
use Rattle.port_inbox.specs.Inboxes.{Inbox, Line, line_at, moved_to, with_block, with_line}
use Rattle.port_inbox.specs.Samples.{HoldsSamples, IsSamplesOf, Samples, with_sample}
use Rattle.port_inbox.specs.declared.arrivals.Heard.{Heard}
use Rattle.app_turn.specs.Machines.{KeepsOf}
use Rattle.app_turn.specs.OwnLinks.{IsPlaceOf}
use Rattle.app_turn.specs.declared.inbox.PortInbox.{PortInbox}
use Rattle.app_turn.specs.declared.inbox.PortInbox.TheVariants.{Silent, Unfed, Hears, Listens, Follows}

-- ---- what an inbox answers, as items

abbrev pub message_of : Heard → Item
message_of h = Message (record { time = h.time; word = h.word })

-- ---- one port

-- the inbox of an input for events or messages, which delivered step j at most
pub record IsLined (scene : Scene) (b p j : ℕ) (kind : PortKind) (inbox : Inbox) : Type 0 where
  pub input : (port_at scene b p).direction ≡ Input
  pub carries : (port_at scene b p).kind ≡ kind
  pub lined : HasLinesOf scene b p inbox
  pub in_time : inbox.delivered ≤ j

-- the one connection of a continuous input
abbrev pub only_link : Scene → ℕ → ℕ → ℕ
only_link scene b p = slice_index (links_to scene b p) 0

-- the inbox of a continuous input
pub record IsSampling (scene : Scene) (b p : ℕ) (s : Samples) : Type 0 where
  pub input : (port_at scene b p).direction ≡ Input
  pub carries : (port_at scene b p).kind ≡ Values
  pub made : IsSamplesOf scene b p (only_link scene b p) s

-- what stands at port p of application b before step j
abbrev pub IsPortInbox : Scene → ℕ → ℕ → ℕ → PortInbox → Type 0
IsPortInbox scene b p j Silent = (port_at scene b p).direction ≡ Output
IsPortInbox scene b p j Unfed = ((port_at scene b p).direction ≡ Input) × ((port_at scene b p).kind ≡ Values) × (links_to scene b p ≡ [])
IsPortInbox scene b p j (Hears inbox) = IsLined scene b p j Events inbox × AllPaired (IsRoutesOf scene) (links_to scene b p) inbox.routes
IsPortInbox scene b p j (Listens inbox) = IsLined scene b p j Messages inbox × (inbox.routes ≡ [])
IsPortInbox scene b p j (Follows s) = IsSampling scene b p s

-- from step j on it keeps what the table has
abbrev pub HoldsAt : Scene → ℕ → ℕ → ℕ → PortInbox → Table → Type 0
HoldsAt scene b p j (Hears inbox) table = HoldsFrom scene b p inbox.lines table j
HoldsAt scene b p j (Listens inbox) table = HoldsFrom scene b p inbox.lines table j
HoldsAt scene b p j (Follows s) table = HoldsSamples scene (only_link scene b p) s table
HoldsAt scene b p j _ table = ⊤

-- just the blocks were admitted that the step wants
abbrev pub WantedAt : Scene → ℕ → ℕ → ℕ → PortInbox → Type 0
WantedAt scene b p j (Hears inbox) = HasWanted scene b p inbox j
WantedAt scene b p j (Listens inbox) = HasWanted scene b p inbox j
WantedAt scene b p j (Follows s) = s.admitted ≡ wanted scene (only_link scene b p) j
WantedAt scene b p j _ = ⊤

-- after the delivery of a step
abbrev pub settled : ℕ → PortInbox → PortInbox
settled j (Hears inbox) = Hears (moved_to j inbox)
settled j (Listens inbox) = Listens (moved_to j inbox)
settled j other = other

-- the step was delivered, or nothing changed
abbrev pub IsSettled : ℕ → PortInbox → PortInbox → Type 0
IsSettled j before after = (after ≡ before) ⊎ (after ≡ settled j before)

-- ---- one connection

abbrev pub inbox_at : List PortInbox → ℕ → PortInbox
inbox_at inboxes p = slice_index_or inboxes p Silent

-- the blocks admitted of the connection at place i of a port
abbrev pub admitted_by : PortInbox → ℕ → ℕ
admitted_by (Hears inbox) i = (line_at inbox i).admitted
admitted_by (Listens inbox) i = (line_at inbox i).admitted
admitted_by (Follows s) i = s.admitted
admitted_by _ i = 0

-- what contracts see of the blocks that are kept of it: the items that pass the test, or the samples
abbrev pub left_by : (Item → Bool) → PortInbox → ℕ → List Block
left_by test (Hears inbox) i = left_in test (line_at inbox i).kept
left_by test (Listens inbox) i = left_in test (line_at inbox i).kept
left_by test (Follows s) i = s.kept
left_by test _ i = []

-- of a connection to the application what is due in step j or later
unfoldable pub waiting_at : Scene → ℕ → ℕ → List PortInbox → List ℕ → ℕ → List Block
waiting_at scene app j inboxes places c =
    if receiver scene c == app
    then left_by (is_due_from scene c j) (inbox_at inboxes (link_at scene c).to_port) (slice_index places c)
    else []

unfoldable pub waiting_in : Scene → ℕ → ℕ → List PortInbox → List ℕ → List (List Block)
waiting_in scene app j inboxes places = map (waiting_at scene app j inboxes places) (below (length scene.links))

-- ---- all ports

-- the inboxes of an application before step j, with the blocks taken of each connection, and each connection's place
pub record AreInboxes (scene : Scene) (app j : ℕ) (taken places : List ℕ) (inboxes : List PortInbox) : Type 0 where
  pub counted : length inboxes ≡ length (app_at scene app).ports
  pub each : (p : ℕ) → p < length inboxes → IsPortInbox scene app p j (inbox_at inboxes p)
  pub placed : EachTo scene app (λ c. IsPlaceOf scene app c (slice_index places c))
  pub placed_back : (p i : ℕ) → i < length (links_to scene app p) → slice_index places (slice_index (links_to scene app p) i) ≡ i
  pub admitted : EachTo scene app (λ c. admitted_by (inbox_at inboxes (link_at scene c).to_port) (slice_index places c) ≡ slice_index taken c)

-- what contracts see of the inboxes is a table's, from step j on
pub record AreKept (scene : Scene) (app j : ℕ) (taken : List ℕ) (waiting : List (List Block)) (table : Table) : Type 0 where
  pub there : EachTo scene app (λ c. slice_index taken c ≤ length (steps_of table (sender scene c)))
  pub keeps : EachTo scene app (λ c. KeepsOf (input_of scene c).kind scene table j c (slice_index taken c) (slice_index_or waiting c []))

-- ---- a block more

-- with room for n blocks at place i
abbrev pub with_room : PortInbox → ℕ → ℕ → PortInbox
with_room (Hears inbox) i n = Hears (with_line inbox i (record (line_at inbox i) { spare = n }))
with_room (Listens inbox) i n = Listens (with_line inbox i (record (line_at inbox i) { spare = n }))
with_room other i n = other

-- with a block more at place i
abbrev pub with_admitted : PortInbox → ℕ → Block → PortInbox
with_admitted (Hears inbox) i block = Hears (with_line inbox i (with_block (line_at inbox i) block))
with_admitted (Listens inbox) i block = Listens (with_line inbox i (with_block (line_at inbox i) block))
with_admitted (Follows s) i block = Follows (with_sample s block)
with_admitted other i block = other

abbrev pub HasPlace : PortInbox → ℕ → Type 0
HasPlace (Hears inbox) i = i < length inbox.lines
HasPlace (Listens inbox) i = i < length inbox.lines
HasPlace _ i = ⊤

abbrev pub HasRoom : PortInbox → ℕ → Type 0
HasRoom (Hears inbox) i = 1 ≤ (line_at inbox i).spare
HasRoom (Listens inbox) i = 1 ≤ (line_at inbox i).spare
HasRoom _ i = ⊤

-- room was made, and nothing else
abbrev pub IsRoomierAt : PortInbox → ℕ → PortInbox → Type 0
IsRoomierAt x i y = (n : ℕ) × (y ≡ with_room x i n)

abbrev pub IsRoomier : List PortInbox → ℕ → ℕ → List PortInbox → Type 0
IsRoomier xs p i ys = (n : ℕ) × (ys ≡ slice_set xs p (with_room (inbox_at xs p) i n))

-- ---- at the start

-- nothing was admitted or delivered
abbrev pub IsFresh : PortInbox → Type 0
IsFresh (Hears inbox) = AllByRecursion (λ (line : Line). (line.admitted ≡ 0) × (line.kept ≡ [])) inbox.lines
IsFresh (Listens inbox) = AllByRecursion (λ (line : Line). (line.admitted ≡ 0) × (line.kept ≡ [])) inbox.lines
IsFresh (Follows s) = (s.admitted ≡ 0) × (s.kept ≡ [])
IsFresh _ = ⊤
