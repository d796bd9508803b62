-- A table of step outputs, and what a step of an input reads of it.
use Rattle.std.specs.Prelude.{ℕ, ◌+◌, ◌-◌, ◌/◌, ◌%◌, ◌≤◌, ◌<◌, ◌≡◌, min, Bool, true, false, ◌==◌, ◌&&◌, nat_lt, if◌then◌else◌, List, [], ◌∷◌, length, slice_index_or, map, ℤ, pos, ◌+ℤ◌, ◌-ℤ◌, ◌*ℤ◌, ⊤, Option, Some, None, FitsSigned}
use Rattle.std.specs.Int.{w64}
use Rattle.std.specs.List.{filter, flat_map, AllByRecursion}
use Rattle.std.specs.declared.cmp.Ordering.{Ordering}
use Rattle.std.specs.Ordering.{ordering_then, nat_cmp}
use Rattle.music_base.specs.Items.{AreValues, IsMessageWithin, time_of}
use Rattle.music_base.specs.Numbers.{below, floor_div, in_order}
use Rattle.music_base.specs.declared.item.Item.{Item}
use Rattle.music_base.specs.declared.item.Item.TheVariants.{Event, Value, Message}
use Rattle.index_maps.specs.Maps.{maps_index, indices}
use Rattle.scene_model.specs.Scenes.{app_at, port_at, link_at, sender, receiver, input_of, links_to}
use Rattle.scene_model.specs.Clocks.{start, tick, steps, clock, delay, due}
use Rattle.scene_model.specs.declared.scene.Scene.{Scene}
use Rattle.scene_model.specs.declared.port.PortDecl.{PortDecl}
use Rattle.scene_model.specs.declared.port.Direction.{Direction}
use Rattle.scene_model.specs.declared.port.Direction.TheVariants.{Output, Input}
use Rattle.scene_model.specs.declared.port.PortKind.{PortKind}
use Rattle.scene_model.specs.declared.port.PortKind.TheVariants.{Events, Values, Messages}

-- ---- tables

-- for each port of an application the items of one step. An input puts out none
abbrev pub StepOutput : Type 0
StepOutput = List (List Item)

-- for each application the step outputs of its steps so far. No connection stands in it
abbrev pub Table : Type 0
Table = List (List StepOutput)

-- the steps that a table has of application a
abbrev pub steps_of : Table → ℕ → List StepOutput
steps_of table a = slice_index_or table a []

-- what step k of application a put out, and nothing where the table ends before
abbrev pub step_of : Table → ℕ → ℕ → StepOutput
step_of table a k = slice_index_or (steps_of table a) k []

-- what step k of application a put out on port p
abbrev pub block : Table → ℕ → ℕ → ℕ → List Item
block table a k p = slice_index_or (step_of table a k) p []

-- block k of connection c
abbrev pub block_on : Scene → Table → ℕ → ℕ → List Item
block_on scene table c k = block table (sender scene c) k (link_at scene c).from_port

-- ---- proper tables

-- an event of a step that lasts from one time up to another, whose index the port maps
abbrev pub IsEventWithin : PortDecl → ℕ → ℕ → Item → Type 0
IsEventWithin port from to (Event e) = (from ≤ e.time) × (e.time < to) × (maps_index port.map e.global ≡ true)
IsEventWithin port from to _ = ⊥

-- what a port may put out in such a step: nothing at an input, events of mapped indices or messages, each of a time
-- within the step, or one value for each mapped index, ascending
abbrev pub IsProperBlock : Direction → PortKind → PortDecl → ℕ → ℕ → List Item → Type 0
IsProperBlock Input kind port from to items = items ≡ []
IsProperBlock Output Events port from to items = AllByRecursion (IsEventWithin port from to) items
IsProperBlock Output Messages port from to items = AllByRecursion (IsMessageWithin from to) items
IsProperBlock Output Values port from to items = AreValues (indices port.map) items

-- each application of the scene has at most its steps, each with a list for each of its ports, in which stands what
-- that port may put out in that step
pub record IsProper (scene : Scene) (table : Table) : Type 0 where
  pub apps : length table ≡ length scene.apps
  pub steps : (a : ℕ) → a < length scene.apps → length (steps_of table a) ≤ steps scene a
  pub ports : (a k : ℕ) → a < length scene.apps → k < length (steps_of table a) → length (step_of table a k) ≡ length (app_at scene a).ports
  pub blocks : (a k p : ℕ) → a < length scene.apps → k < length (steps_of table a) → p < length (app_at scene a).ports
      → IsProperBlock (port_at scene a p).direction (port_at scene a p).kind (port_at scene a p) (clock scene a k) (clock scene a (k + 1)) (block table a k p)

-- 64 bits hold the value of an item, as a signed number of millionths
abbrev pub Fits64Bits : Item → Type 0
Fits64Bits (Value global value) = FitsSigned w64 value
Fits64Bits _ = ⊤

-- ---- arrivals

-- what is due in a step is due in step j
abbrev pub is_step : ℕ → Option ℕ → Bool
is_step j None = false
is_step j (Some step) = step == j

-- an item arrives in step j of connection c where it is due then, and an event only where some rank of the input maps
-- its index. A message has no index, and a value never arrives: it is read
abbrev pub arrives : Scene → ℕ → ℕ → Item → Bool
arrives scene c j (Event e) = is_step j (due scene c e.time) && maps_index (input_of scene c).map e.global
arrives scene c j (Message m) = is_step j (due scene c m.time)
arrives scene c j (Value global value) = false

-- an item, with the places of the application and the port that sent it
pub record Sent : Type 0 where
  pub item : Item
  pub app : ℕ
  pub port : ℕ

-- the global index of an item. A message counts as one of index 0
abbrev pub global_of : Item → ℕ
global_of (Event e) = e.global
global_of (Message m) = 0
global_of (Value global value) = global

-- by time, global index, sender's place and sender's port place
abbrev pub sent_cmp : Sent → Sent → Ordering
sent_cmp x y =
    ordering_then (nat_cmp (time_of x.item) (time_of y.item))
    (ordering_then (nat_cmp (global_of x.item) (global_of y.item))
    (ordering_then (nat_cmp x.app y.app) (nat_cmp x.port y.port)))

-- what comes over connection c in step j: step by step of the sender, and each step's items in their order
abbrev pub coming : Scene → Table → ℕ → ℕ → List Sent
coming scene table j c =
    flat_map (λ k. map (λ item. record { item = item; app = sender scene c; port = (link_at scene c).from_port })
    (filter (arrives scene c j) (block_on scene table c k))) (below (steps scene (sender scene c)))

-- the arrivals of port p of application b in step j, of all its connections, in order. Items that tie keep their
-- places in the sender's list
unfoldable pub arrivals : Scene → Table → ℕ → ℕ → ℕ → List Item
arrivals scene table b p j = map (λ (s : Sent). s.item) (in_order sent_cmp (flat_map (coming scene table j) (links_to scene b p)))

-- ---- continuous values

-- the value of an index in a block, and 0 where there is none
abbrev pub value_in : List Item → ℕ → ℤ
value_in [] g = pos 0
value_in (Value global value ∷ items) g = if global == g then value else value_in items g
value_in (_ ∷ items) g = value_in items g

-- sample k of an index on connection c: its value in block k, or in the last block before that the table has
abbrev pub sample : Scene → Table → ℕ → ℕ → ℕ → ℤ
sample scene table c g k =
    let last = length (steps_of table (sender scene c)) - 1 in
    value_in (block_on scene table c (min k last)) g

-- what is read at a time of samples that are a tick apart: the last sample that is not later, or the point between it
-- and the next one, rounded down
abbrev pub reading : Bool → (ℕ → ℤ) → ℕ → ℕ → ℤ
reading false samples tick time = samples (time / tick)
reading true samples tick time =
    let k : ℕ = time / tick in
    samples k +ℤ floor_div ((samples (k + 1) -ℤ samples k) *ℤ pos (time % tick)) tick

-- what step j reads of an index on connection c, a delay behind its clock: 0 where that lies before all samples. The first
-- sample is one of the sender's start
abbrev pub value_on : Scene → Table → ℕ → ℕ → ℕ → ℤ
value_on scene table j g c =
    let now = clock scene (receiver scene c) j in
    let first = start scene (sender scene c) + delay scene c in
    if nat_lt now first then pos 0
    else reading (input_of scene c).interpolate (sample scene table c g) (tick scene (sender scene c)) (now - first)

-- at most one connection leads to a continuous input. Where none does, the value is 0
abbrev pub value_over : Scene → Table → ℕ → ℕ → List ℕ → ℤ
value_over scene table j g [] = pos 0
value_over scene table j g (c ∷ cs) = value_on scene table j g c

-- the value of an index that port p of application b reads in step j
unfoldable pub value : Scene → Table → ℕ → ℕ → ℕ → ℕ → ℤ
value scene table b p j g = value_over scene table j g (links_to scene b p)
