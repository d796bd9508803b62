-- Small scenes, each with one fault, of which the laws say that they have one.
use Rattle.std.specs.Prelude.{[], ◌∷◌, ◌+◌, Some, codes}
use Rattle.index_maps.specs.declared.map.IndexMap.TheVariants.{Linear}
use Rattle.index_maps.specs.declared.map.PortMap.TheVariants.{Each}
use Rattle.music_base.specs.Times.{greatest_time}
use Rattle.scene_model.specs.Limits.{most_buffered}
use Rattle.scene_model.specs.WorkedScenes.{all_until, app, ms, connected, emit_each_ms, events_in, gen, input, linear, link, output, sink}
use Rattle.scene_model.specs.declared.port.PortDecl.{PortDecl}
use Rattle.scene_model.specs.declared.port.PortKind.TheVariants.{Events, Values, Messages}
use Rattle.scene_model.specs.declared.rule.Rule.{Rule}
use Rattle.scene_model.specs.declared.rule.Rule.TheVariants.{EmitAt, EmitEvery}
use Rattle.scene_model.specs.declared.scene.Scene.{Scene}

-- an event each millisecond, to this input
abbrev pub to_port : PortDecl → Scene
to_port port = connected (ms 3) (gen (ms 1) emit_each_ms) (sink (ms 1) port)

-- an emission by this rule, to an input of the same indices
abbrev pub by_rule : Rule → Scene
by_rule rule = connected (ms 3) (gen (ms 1) rule) (sink (ms 1) (events_in 0))

-- ---- numbers

-- a stop past the greatest time, though each application runs few steps
abbrev pub late_stop : Scene
late_stop = record { stop = greatest_time + 1; apps = []; links = [] }

-- a tick of no time
abbrev pub no_tick : Scene
no_tick = connected (ms 3) (gen 0 emit_each_ms) (sink (ms 1) (events_in 0))

-- an input that buffers one tick too many
abbrev pub much_buffered : Scene
much_buffered = to_port (record (events_in 0) { buffered = Some (most_buffered + 1) })

-- ---- names

-- two applications of one name
abbrev pub one_name : Scene
one_name = all_until (ms 3) (gen (ms 1) emit_each_ms ∷ gen (ms 1) emit_each_ms ∷ []) []

-- ---- maps

-- an output that maps indices 2 and 3 at both of its ranks
abbrev pub overlapping : Scene
overlapping =
    all_until (ms 3)
    (record (app (codes "gen") (ms 1) (output (codes "spikes") Events (Each (Linear (record { base = 0; size = 4 }) ∷ Linear (record { base = 2; size = 4 }) ∷ [])) ∷ []) []) { np = 2 } ∷ []) []

-- a message input that maps index 1
abbrev pub other_message_map : Scene
other_message_map = all_until (ms 3) (sink (ms 1) (input (codes "in") Messages (linear 1 1)) ∷ []) []

-- ---- rules

-- an index that the output does not map
abbrev pub unmapped : Scene
unmapped = by_rule (EmitAt (codes "spikes") 10 0)

-- a period of no time
abbrev pub no_period : Scene
no_period = by_rule (EmitEvery (codes "spikes") 3 0 0)

-- ---- links

-- events to a continuous input
abbrev pub other_kind : Scene
other_kind = to_port (input (codes "in") Values (linear 0 10))

-- two connections of the same two ports
abbrev pub joined_twice : Scene
joined_twice = record (to_port (events_in 0)) { links = link 0 0 1 0 ∷ link 0 0 1 0 ∷ [] }
