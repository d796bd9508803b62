-- A small scene, and an order of its acts that can be followed by hand.
use Rattle.std.specs.Prelude.{List, [], ◌∷◌}
use Rattle.scene_model.specs.WorkedScenes.{ms, connected, gen, sink, events_in, emit_each_ms}
use Rattle.scene_model.specs.declared.act.Act.{Act}
use Rattle.scene_model.specs.declared.act.Act.TheVariants.{Take, Run, Put}
use Rattle.scene_model.specs.declared.scene.Scene.{Scene}

-- one step of each of two applications
abbrev pub one_step : Scene
one_step = connected (ms 1) (gen (ms 1) emit_each_ms) (sink (ms 1) (events_in 0))

abbrev pub one_step_order : List Act
one_step_order = Run 0 ∷ Put 0 ∷ Take 0 ∷ Run 1 ∷ []
