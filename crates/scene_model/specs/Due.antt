-- What is due in a step or a later one.
use Rattle.std.specs.Prelude.{ℕ, Bool, false, nat_le, Option, None, Some}
use Rattle.music_base.specs.declared.item.Item.{Item}
use Rattle.music_base.specs.declared.item.Item.TheVariants.{Event, Value, Message}
use Rattle.scene_model.specs.Clocks.{due}
use Rattle.scene_model.specs.declared.scene.Scene.{Scene}

-- what is due in a step is due in step j or later. What is due in no step, since it lies before the start, is past from step 0
-- on
abbrev pub is_step_from : ℕ → Option ℕ → Bool
is_step_from j None = false
is_step_from j (Some step) = nat_le j step

-- of connection c: an event or a message is due in step j or later. A value is never due: it is read
abbrev pub is_due_from : Scene → ℕ → ℕ → Item → Bool
is_due_from scene c j (Event e) = is_step_from j (due scene c e.time)
is_due_from scene c j (Message m) = is_step_from j (due scene c m.time)
is_due_from scene c j (Value global value) = false
