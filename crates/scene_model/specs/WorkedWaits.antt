-- Small scenes whose waits, cycles and limits can be followed by hand. Times are in ns.
use Rattle.std.specs.Prelude.{ℕ, List, [], ◌∷◌, Option, Some, codes}
use Rattle.scene_model.specs.Waits.{block_wait, room_wait}
use Rattle.scene_model.specs.WorkedScenes.{all_until, app, connected, input, linear, link, ms, output}
use Rattle.scene_model.specs.declared.port.PortDecl.{PortDecl}
use Rattle.scene_model.specs.declared.port.PortKind.TheVariants.{Events}
use Rattle.scene_model.specs.declared.scene.AppDecl.{AppDecl}
use Rattle.scene_model.specs.declared.scene.Scene.{Scene}
use Rattle.scene_model.specs.declared.wait.Wait.{Wait}

-- ---- two applications that send to each other

-- an output and an input of events, and the input's latency
abbrev pub event_output : List ℕ → PortDecl
event_output name = output name Events (linear 0 1)

abbrev pub event_input : List ℕ → ℕ → PortDecl
event_input name latency = record (input name Events (linear 0 1)) { latency = latency }

-- an application that both sends and receives
abbrev pub relay : List ℕ → ℕ → ℕ → AppDecl
relay name tick latency = app name tick (event_output (codes "out") ∷ event_input (codes "in") latency ∷ []) []

-- a and b, with these ticks and latencies, each send to the other
abbrev pub pair : ℕ → ℕ → ℕ → ℕ → Scene
pair tick_a tick_b latency_a latency_b =
    all_until (ms 10) (relay (codes "a") tick_a latency_a ∷ relay (codes "b") tick_b latency_b ∷ []) (link 0 0 1 1 ∷ link 1 0 0 1 ∷ [])

-- without a latency each waits for the other
abbrev pub no_latency : Scene
no_latency = pair (ms 1) (ms 1) 0 0

-- a latency that is less than a tick is none, and one of a tick is enough
abbrev pub short_latency : Scene
short_latency = pair (ms 1) (ms 1) 900_000 0

abbrev pub latency_of_a_tick : Scene
latency_of_a_tick = pair (ms 1) (ms 1) (ms 1) 0

-- ticks of 2 and 3 ms, whose clocks are a millisecond apart or more, with a latency that is too short and one that is not
abbrev pub uneven_ticks : Scene
uneven_ticks = pair (ms 2) (ms 3) 3_999_999 0

abbrev pub uneven_but_late : Scene
uneven_but_late = pair (ms 2) (ms 3) (ms 4) 0

-- their cycle: a waits for a block of b, and b for one of a
abbrev pub for_each_other : Scene → List Wait
for_each_other scene = block_wait scene 1 ∷ block_wait scene 0 ∷ []

-- ---- one application that sends to itself

abbrev pub alone : ℕ → Scene
alone latency = all_until (ms 10) (relay (codes "a") (ms 1) latency ∷ []) (link 0 0 0 1 ∷ [])

abbrev pub to_itself : Scene
to_itself = alone 999_999

abbrev pub to_itself_late : Scene
to_itself_late = alone (ms 1)

-- its cycle: a waits for a block of its own
abbrev pub for_itself : Scene → List Wait
for_itself scene = block_wait scene 0 ∷ []

-- ---- two connections from one application to another

-- the second output may state how much it buffers, and the input that it leads to has a latency of five ticks
abbrev pub two_ways : Option ℕ → Scene
two_ways buffered =
    all_until (ms 10)
    (app (codes "gen") (ms 1) (event_output (codes "a") ∷ record (event_output (codes "b")) { buffered = buffered } ∷ []) []
    ∷ app (codes "sink") (ms 1) (event_input (codes "p") 0 ∷ event_input (codes "q") (ms 5) ∷ []) []
    ∷ [])
    (link 0 0 1 0 ∷ link 0 1 1 1 ∷ [])

-- the second output keeps three blocks, which is one too few
abbrev pub little_room : Scene
little_room = two_ways (Some 3)

-- its cycle: gen waits for room on the second connection, and sink for a block on the first
abbrev pub for_room_and_block : Scene → List Wait
for_room_and_block scene = room_wait scene 1 3 ∷ block_wait scene 0 ∷ []

-- ---- one connection whose ends state how many ticks they buffer

abbrev pub buffering : ℕ → ℕ → Option ℕ → Option ℕ → Scene
buffering send_tick receive_tick by_output by_input = connected (ms 10)
    (app (codes "gen") send_tick (record (event_output (codes "a")) { buffered = by_output } ∷ []) [])
    (app (codes "sink") receive_tick (record (event_input (codes "p") 0) { buffered = by_input } ∷ []) [])
