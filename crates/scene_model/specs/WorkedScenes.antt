-- Small scenes, of which the laws say what their logs are.
use Rattle.std.specs.Prelude.{ℕ, ◌*◌, true, false, List, [], ◌∷◌, map, ℤ, pos, negsuc, None, codes}
use Rattle.std.specs.List.{flat_map}
use Rattle.index_maps.specs.declared.map.IndexMap.TheVariants.{Linear}
use Rattle.index_maps.specs.declared.map.PortMap.{PortMap}
use Rattle.index_maps.specs.declared.map.PortMap.TheVariants.{Each}
use Rattle.music_base.specs.Lines.{ended}
use Rattle.scene_model.specs.declared.scene.Scene.{Scene}
use Rattle.scene_model.specs.declared.scene.AppDecl.{AppDecl}
use Rattle.scene_model.specs.declared.scene.Link.{Link}
use Rattle.scene_model.specs.declared.rule.Rule.{Rule}
use Rattle.scene_model.specs.declared.rule.Rule.TheVariants.{EmitAt, EmitEvery, Ramp}
use Rattle.scene_model.specs.declared.port.PortDecl.{PortDecl}
use Rattle.scene_model.specs.declared.port.PortKind.{PortKind}
use Rattle.scene_model.specs.declared.port.PortKind.TheVariants.{Events, Values}
use Rattle.scene_model.specs.declared.port.Direction.TheVariants.{Output, Input}

-- ---- words for scenes and logs

-- milliseconds, in ns
abbrev pub ms : ℕ → ℕ
ms n = n * 1_000_000

-- base+size, at a port of one rank
abbrev pub linear : ℕ → ℕ → PortMap
linear base size = Each (Linear (record { base = base; size = size }) ∷ [])

-- ports without options
abbrev pub output : List ℕ → PortKind → PortMap → PortDecl
output name kind map = record {
  name = name;
  direction = Output;
  kind = kind;
  map = map;
  latency = 0;
  delay = 0;
  interpolate = true;
  buffered = None;
}

abbrev pub input : List ℕ → PortKind → PortMap → PortDecl
input name kind map = record {
  name = name;
  direction = Input;
  kind = kind;
  map = map;
  latency = 0;
  delay = 0;
  interpolate = true;
  buffered = None;
}

abbrev pub link : ℕ → ℕ → ℕ → ℕ → Link
link a p b q = record { from_app = a; from_port = p; to_app = b; to_port = q; width = None; latency = None; buffered = None }

-- an application of one process that starts at 0. Its stop is still to be stated
abbrev pub app : List ℕ → ℕ → List PortDecl → List Rule → AppDecl
app name tick ports rules = record { name = name; np = 1; start = 0; stop = 0; tick = tick; ports = ports; rules = rules }

-- a scene whose applications all stop at its stop
abbrev pub all_until : ℕ → List AppDecl → List Link → Scene
all_until stop apps links = record { stop = stop; apps = map (λ (a : AppDecl). record a { stop = stop }) apps; links = links }

-- each line with its end
abbrev pub lines : List (List ℕ) → List ℕ
lines = flat_map ended

-- a log of these rows
abbrev pub log : List (List ℕ) → List ℕ
log rows = lines (codes "clock,app,port,kind,rank,local,global,time,value" ∷ rows)

-- ---- events from gen to sink

abbrev pub gen : ℕ → Rule → AppDecl
gen tick rule = app (codes "gen") tick (output (codes "spikes") Events (linear 0 10) ∷ []) (rule ∷ [])

abbrev pub sink : ℕ → PortDecl → AppDecl
sink tick port = app (codes "sink") tick (port ∷ []) []

-- the first port of one application leads to the first of the other
abbrev pub connected : ℕ → AppDecl → AppDecl → Scene
connected stop from to = all_until stop (from ∷ to ∷ []) (link 0 0 1 0 ∷ [])

abbrev pub emit_each_ms : Rule
emit_each_ms = EmitEvery (codes "spikes") 3 (ms 1) 500_000

abbrev pub emit_late : Rule
emit_late = EmitAt (codes "spikes") 3 999_999

-- an event input whose latency is so many ns
abbrev pub events_in : ℕ → PortDecl
events_in latency = record (input (codes "in") Events (linear 0 10)) { latency = latency }

-- an event each millisecond, to a receiver that ticks each millisecond
abbrev pub event_each_tick : Scene
event_each_tick = connected (ms 3) (gen (ms 1) emit_each_ms) (sink (ms 1) (events_in 0))

-- an event each 4 ms, to a receiver that ticks each 10 ms
abbrev pub slow_receiver : Scene
slow_receiver = connected (ms 20) (gen (ms 1) (EmitEvery (codes "spikes") 3 (ms 4) 500_000)) (sink (ms 10) (events_in 0))

-- a sender that ticks each 2 ms, with an event each millisecond
abbrev pub slow_sender : Scene
slow_sender = connected (ms 2) (gen (ms 2) emit_each_ms) (sink (ms 1) (events_in 0))

-- two ranks of the receiver map the index of one event, at different local places
abbrev pub shared_index : Scene
shared_index = connected (ms 1) (gen (ms 1) (EmitAt (codes "spikes") 2 500_000)) (record (sink (ms 1)
    (record (events_in 0) { map = Each (Linear (record { base = 0; size = 4 }) ∷ Linear (record { base = 2; size = 4 }) ∷ []) })) { np = 2 })

-- an event a nanosecond before the receiver's tick, with latencies of 0 and of that nanosecond
abbrev pub just_in_time : Scene
just_in_time = connected (ms 2) (gen (ms 1) emit_late) (sink (ms 1) (events_in 0))

abbrev pub late_by_latency : Scene
late_by_latency = connected (ms 2) (gen (ms 1) emit_late) (sink (ms 1) (events_in 1))

-- a latency that carries each event past the stop
abbrev pub past_the_stop : Scene
past_the_stop = connected (ms 2) (gen (ms 1) emit_each_ms) (sink (ms 1) (events_in (ms 10)))

-- ---- values from gen to sink

-- a ramp that is sampled each 2 ms and read each millisecond
abbrev pub ramp_from : ℕ → ℤ → PortDecl → Scene
ramp_from stop by port = connected stop
    (app (codes "gen") (ms 2) (output (codes "c") Values (linear 0 1) ∷ []) (Ramp (codes "c") 0 (pos 0) by ∷ []))
    (sink (ms 1) port)

abbrev pub values_in : PortDecl
values_in = input (codes "d") Values (linear 0 1)

-- three millionths down a sample: half way from 0 to -3 the value is -2, rounded down
abbrev pub ramp_down : Scene
ramp_down = ramp_from (ms 3) (negsuc 2) values_in

-- ten millionths up a sample: past the last sample its value is held
abbrev pub ramp_up : Scene
ramp_up = ramp_from (ms 4) (pos 10) values_in

-- the same ramp where each sample is held until the next
abbrev pub ramp_held : Scene
ramp_held = ramp_from (ms 4) (pos 10) (record values_in { interpolate = false })
