-- Small scenes whose applications start and stop at times of their own, or whose connection states a latency or how many blocks
-- it keeps. Times are in ns.
use Rattle.std.specs.Prelude.{ℕ, false, [], ◌∷◌, pos, Some, codes}
use Rattle.scene_model.specs.WorkedScenes.{all_until, app, emit_each_ms, emit_late, events_in, gen, link, linear, ms, output, sink, slow_receiver, values_in}
use Rattle.scene_model.specs.WorkedWaits.{buffering, no_latency, pair, relay}
use Rattle.scene_model.specs.declared.port.PortDecl.{PortDecl}
use Rattle.scene_model.specs.declared.port.PortKind.TheVariants.{Values}
use Rattle.scene_model.specs.declared.rule.Rule.TheVariants.{Ramp}
use Rattle.scene_model.specs.declared.scene.AppDecl.{AppDecl}
use Rattle.scene_model.specs.declared.scene.Link.{Link}
use Rattle.scene_model.specs.declared.scene.Scene.{Scene}

-- ---- words for scenes

-- the application, from this start until this stop
abbrev pub running : ℕ → ℕ → AppDecl → AppDecl
running start stop app = record app { start = start; stop = stop }

-- the first port of one application leads to the first of the other, over this connection
abbrev pub over : Link → AppDecl → AppDecl → Scene
over connection from to = record { stop = ms 3; apps = from ∷ to ∷ []; links = connection ∷ [] }

-- a connection that states nothing, and the same with a latency, or with how many blocks it keeps
abbrev pub plain : Link
plain = link 0 0 1 0

abbrev pub late : ℕ → Link → Link
late latency connection = record connection { latency = Some latency }

abbrev pub keeping : ℕ → Link → Link
keeping blocks connection = record connection { buffered = Some blocks }

-- ---- events from gen to sink, each millisecond, the first at half a millisecond

abbrev pub gen_while : ℕ → ℕ → AppDecl
gen_while start stop = running start stop (gen (ms 1) emit_each_ms)

abbrev pub sink_while : ℕ → ℕ → AppDecl
sink_while start stop = running start stop (sink (ms 1) (events_in 0))

-- the first event lies before the start of sink
abbrev pub late_sink : Scene
late_sink = over plain (gen_while 0 (ms 3)) (sink_while (ms 1) (ms 3))

-- sink starts with the first event, so that its clocks lie half a millisecond behind those of gen
abbrev pub sink_between_ticks : Scene
sink_between_ticks = over plain (gen_while 0 (ms 3)) (sink_while 500_000 (ms 3))

-- gen starts with its first event
abbrev pub late_gen : Scene
late_gen = over plain (gen_while 500_000 (ms 3)) (sink_while 0 (ms 3))

-- one of the two stops before the other
abbrev pub early_gen : Scene
early_gen = over plain (gen_while 0 (ms 1)) (sink_while 0 (ms 3))

abbrev pub early_sink : Scene
early_sink = over plain (gen_while 0 (ms 3)) (sink_while 0 (ms 2))

-- sink runs on after gen, and each event comes two ticks late
abbrev pub sink_runs_on : Scene
sink_runs_on = over plain (gen_while 0 (ms 3)) (running 0 (ms 5) (sink (ms 1) (events_in (ms 2))))

-- sink starts after its stop, or at it, so it runs no step
abbrev pub sink_past_stop : Scene
sink_past_stop = over plain (gen_while 0 (ms 3)) (sink_while (ms 10) (ms 3))

abbrev pub sink_at_stop : Scene
sink_at_stop = over plain (gen_while 0 (ms 3)) (sink_while (ms 3) (ms 3))

-- ---- values from gen to sink: a ramp from five by tens, sampled each 2 ms and read each millisecond

abbrev pub ramp_while : ℕ → ℕ → AppDecl
ramp_while start stop = running start stop (app (codes "gen") (ms 2) (output (codes "c") Values (linear 0 1) ∷ []) (Ramp (codes "c") 0 (pos 5) (pos 10) ∷ []))

abbrev pub reading_while : ℕ → ℕ → PortDecl → AppDecl
reading_while start stop port = running start stop (sink (ms 1) port)

abbrev pub held : PortDecl
held = record values_in { interpolate = false }

-- the first sample is one of the start of gen, before which the value is 0
abbrev pub late_ramp : Scene
late_ramp = over plain (ramp_while (ms 1) (ms 4)) (reading_while 0 (ms 4) values_in)

abbrev pub late_ramp_held : Scene
late_ramp_held = over plain (ramp_while (ms 1) (ms 4)) (reading_while 0 (ms 4) held)

-- sink begins to read between the first two samples
abbrev pub late_reader : Scene
late_reader = over plain (ramp_while 0 (ms 4)) (reading_while (ms 1) (ms 4) values_in)

-- ---- connections that state a latency

-- an event a nanosecond before a clock of sink
abbrev pub just_before : Link → ℕ → Scene
just_before connection latency = over connection (running 0 (ms 2) (gen (ms 1) emit_late)) (running 0 (ms 2) (sink (ms 1) (events_in latency)))

-- that nanosecond is the latency of the connection, whatever that of the input is
abbrev pub late_by_connection : Scene
late_by_connection = just_before (late 1 plain) 0

abbrev pub late_in_place_of_the_input : Scene
late_in_place_of_the_input = just_before (late 1 plain) (ms 10)

-- a latency of 0 is one that is stated too
abbrev pub at_once_in_place_of_the_input : Scene
at_once_in_place_of_the_input = just_before (late 0 plain) (ms 10)

-- at a continuous input the latency of the connection is its delay
abbrev pub delayed_by_connection : Scene
delayed_by_connection = over (late (ms 1) plain) (ramp_while 0 (ms 4)) (reading_while 0 (ms 4) (record held { delay = ms 10 }))

-- ---- a and b send to each other, and b starts half a millisecond after a

abbrev pub apart : ℕ → ℕ → Scene
apart latency_a latency_b =
    all_until (ms 10) (relay (codes "a") (ms 1) latency_a ∷ record (relay (codes "b") (ms 1) latency_b) { start = 500_000 } ∷ []) (link 0 0 1 1 ∷ link 1 0 0 1 ∷ [])

-- Each latency is half a tick. For b it comes to no tick, since b starts half a tick later, and for a to a whole one. Where both
-- start together, each comes to none.
abbrev pub apart_and_late : Scene
apart_and_late = apart 500_000 500_000

abbrev pub together_and_late : Scene
together_and_late = pair (ms 1) (ms 1) 500_000 500_000

-- The latency of a is a tick, which is enough where both start together. Here the start takes half a tick from b, which is rounded
-- to a whole one.
abbrev pub apart_and_a_tick : Scene
apart_and_a_tick = apart (ms 1) 0

abbrev pub apart_without_latency : Scene
apart_without_latency = apart 0 0

-- both start together without a latency, and the connection from b to a states one of a tick
abbrev pub late_back : Scene
late_back = record no_latency { links = link 0 0 1 1 ∷ late (ms 1) (link 1 0 0 1) ∷ [] }

-- ---- connections that state how many blocks they keep

-- to a receiver whose tick is ten of the sender's
abbrev pub keeps_two : Scene
keeps_two = record slow_receiver { links = keeping 2 plain ∷ [] }

-- more than what both ends state
abbrev pub keeps_more_than_its_ends : Scene
keeps_more_than_its_ends = record (buffering (ms 1) (ms 3) (Some 5) (Some 5)) { links = keeping 7 plain ∷ [] }
