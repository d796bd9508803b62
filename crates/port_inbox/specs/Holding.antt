-- What inboxes for events and messages are made for, what they hold of a table, and what they are to answer.
use Rattle.std.specs.Prelude.{ℕ, ◌≡◌, nat_lt, if◌then◌else◌, List, [], map}
use Rattle.std.specs.List.{AllByRecursion, filter}
use Rattle.music_base.specs.Items.{time_of}
use Rattle.music_base.specs.Pairs.{AllPaired}
use Rattle.music_base.specs.declared.item.Item.{Item}
use Rattle.music_base.specs.declared.item.Item.TheVariants.{Message}
use Rattle.index_maps.specs.declared.map.PortMap.{PortMap}
use Rattle.scene_model.specs.Clocks.{latency, start, tick, wanted}
use Rattle.scene_model.specs.Faults.{IsFaultless}
use Rattle.scene_model.specs.Scenes.{input_of, link_at, links_to, output_of, port_at, sender}
use Rattle.scene_model.specs.Tables.{IsProper, Table, arrivals, block_on, global_of}
use Rattle.scene_model.specs.declared.port.PortKind.TheVariants.{Events, Messages}
use Rattle.scene_model.specs.declared.scene.Scene.{Scene}
use Rattle.event_routes.specs.Routing.{AreRoutes, targets_of}
use Rattle.event_routes.specs.Routing.{Route}
use Rattle.scene_model.specs.Due.{is_due_from}
use Rattle.port_inbox.specs.Due.{IsNumbered, items_numbered}
use Rattle.port_inbox.specs.Inboxes.{Inbox, Line}
use Rattle.port_inbox.specs.declared.arrivals.Arrival.{Arrival}
use Rattle.port_inbox.specs.declared.arrivals.Heard.{Heard}
use Rattle.port_inbox.specs.declared.arrivals.InboxLink.{InboxLink}

-- ---- whose inbox it is

-- what an inbox knows of connection c
pub record IsLinkOf (scene : Scene) (c : ℕ) (link : InboxLink) : Type 0 where
  pub app : link.from_app ≡ sender scene c
  pub port : link.from_port ≡ (link_at scene c).from_port
  pub late : link.latency ≡ latency scene c

-- the routes of connection c, from the map of its output to that of its input
abbrev pub IsRoutesOf : Scene → ℕ → List Route → Type 0
IsRoutesOf scene c routes = AreRoutes (output_of scene c).map (input_of scene c).map routes

-- these are the connections to port p of application b in their order, and the start and the tick of b
pub record IsMadeFor (scene : Scene) (b p : ℕ) (links : List InboxLink) (starts ticks : ℕ) : Type 0 where
  pub begins : starts ≡ start scene b
  pub steps : ticks ≡ tick scene b
  pub lines : AllPaired (IsLinkOf scene) (links_to scene b p) links

-- the blocks kept of each connection stand in the order of their numbers, below the count of those admitted
abbrev pub AreNumbered : List Line → Type 0
AreNumbered = AllByRecursion (λ (line : Line). IsNumbered 0 line.admitted line.kept)

-- an inbox has the connections of port p of application b
pub record HasLinesOf (scene : Scene) (b p : ℕ) (inbox : Inbox) : Type 0 where
  pub begins : inbox.start ≡ start scene b
  pub ticks : inbox.tick ≡ tick scene b
  pub links : AllPaired (λ c (line : Line). IsLinkOf scene c line.link) (links_to scene b p) inbox.lines
  pub numbered : AreNumbered inbox.lines

-- the inbox for events of port p of application b, and the one for messages
pub record IsInboxOf (scene : Scene) (b p : ℕ) (inbox : Inbox) : Type 0 where
  pub lined : HasLinesOf scene b p inbox
  pub routed : AllPaired (IsRoutesOf scene) (links_to scene b p) inbox.routes

pub record IsMessageInboxOf (scene : Scene) (b p : ℕ) (inbox : Inbox) : Type 0 where
  pub lined : HasLinesOf scene b p inbox
  pub no_routes : inbox.routes ≡ []

-- ---- what it holds

-- of each block admitted all that is due in step j or later, and nothing else that is
abbrev pub KeepsFrom : Scene → Table → ℕ → ℕ → Line → Type 0
KeepsFrom scene table j c line =
    (k : ℕ) → filter (is_due_from scene c j) (items_numbered line.kept k) ≡ (if nat_lt k line.admitted then filter (is_due_from scene c j) (block_on scene table c k) else [])

-- an inbox holds a table from step j on
abbrev pub HoldsFrom : Scene → ℕ → ℕ → List Line → Table → ℕ → Type 0
HoldsFrom scene b p lines table j = AllPaired (KeepsFrom scene table j) (links_to scene b p) lines

-- from the step last delivered on
abbrev pub Holds : Scene → ℕ → ℕ → Inbox → Table → Type 0
Holds scene b p inbox table = HoldsFrom scene b p inbox.lines table inbox.delivered

-- just the blocks were admitted that the step wants
abbrev pub HasWanted : Scene → ℕ → ℕ → Inbox → ℕ → Type 0
HasWanted scene b p inbox step = AllPaired (λ c (line : Line). line.admitted ≡ wanted scene c step) (links_to scene b p) inbox.lines

-- ---- what it answers

-- an inbox for events has all that a step of its port needs of a proper table
pub record IsFed (scene : Scene) (b p : ℕ) (inbox : Inbox) (table : Table) (step : ℕ) : Type 0 where
  pub faultless : IsFaultless scene
  pub carries : (port_at scene b p).kind ≡ Events
  pub proper : IsProper scene table
  pub made : IsInboxOf scene b p inbox
  pub holds : HoldsFrom scene b p inbox.lines table step
  pub has_wanted : HasWanted scene b p inbox step

-- an event with the targets of its index in the port's map
abbrev pub arrival_of : PortMap → Item → Arrival
arrival_of map item = record { time = time_of item; global = global_of item; targets = targets_of map (global_of item) }

-- what a step of an input for events hears
abbrev pub heard : Scene → Table → ℕ → ℕ → ℕ → List Arrival
heard scene table b p j = map (arrival_of (port_at scene b p).map) (arrivals scene table b p j)

-- the same of an inbox for messages
pub record IsTold (scene : Scene) (b p : ℕ) (inbox : Inbox) (table : Table) (step : ℕ) : Type 0 where
  pub faultless : IsFaultless scene
  pub carries : (port_at scene b p).kind ≡ Messages
  pub proper : IsProper scene table
  pub made : IsMessageInboxOf scene b p inbox
  pub holds : HoldsFrom scene b p inbox.lines table step
  pub has_wanted : HasWanted scene b p inbox step

-- the word of a message. What carries none counts as one of no letters
abbrev pub word_of : Item → List ℕ
word_of (Message m) = m.word
word_of _ = []

abbrev pub heard_of : Item → Heard
heard_of item = record { time = time_of item; word = word_of item }

-- what a step of an input for messages hears
abbrev pub words_heard : Scene → Table → ℕ → ℕ → ℕ → List Heard
words_heard scene table b p j = map heard_of (arrivals scene table b p j)
