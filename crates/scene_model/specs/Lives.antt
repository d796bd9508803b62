-- The lives of applications over a table, and the one history of a scene.
use Rattle.std.specs.Prelude.{ℕ, zero, suc, Bool, List, [], map, length}
use Rattle.music_base.specs.Numbers.{below, total_below}
use Rattle.music_base.specs.declared.item.Item.{Item}
use Rattle.music_base.specs.declared.item.Item.TheVariants.{Value}
use Rattle.index_maps.specs.Maps.{indices}
use Rattle.scene_model.specs.Scenes.{app_at, port_at}
use Rattle.scene_model.specs.Clocks.{start, tick, steps}
use Rattle.scene_model.specs.Tables.{Table, StepOutput, arrivals, value}
use Rattle.scene_model.specs.Turns.{Moment, turn, opening, next_state}
use Rattle.scene_model.specs.declared.scene.Scene.{Scene}
use Rattle.scene_model.specs.declared.port.PortKind.{PortKind}
use Rattle.scene_model.specs.declared.port.PortKind.TheVariants.{Values}
use Rattle.scene_model.specs.declared.port.Direction.{Direction}
use Rattle.scene_model.specs.declared.port.Direction.TheVariants.{Output, Input}

-- ---- what a step reads

-- what port p of application b reads of a table in step j: an event or message input its arrivals, a continuous input a
-- value for each mapped index, ascending, and an output nothing
abbrev pub input_by : Direction → PortKind → Scene → Table → ℕ → ℕ → ℕ → List Item
input_by Output kind scene table b j p = []
input_by Input Values scene table b j p = map (λ g. Value g (value scene table b p j g)) (indices (port_at scene b p).map)
input_by Input _ scene table b j p = arrivals scene table b p j

abbrev pub inputs : Scene → Table → ℕ → ℕ → StepOutput
inputs scene table b j = map (λ p. input_by (port_at scene b p).direction (port_at scene b p).kind scene table b j p) (below (length (app_at scene b).ports))

-- step k of application a, where its inputs read the table
abbrev pub moment : Scene → Table → ℕ → ℕ → Moment
moment scene table a k = record { ports = (app_at scene a).ports; start = start scene a; tick = tick scene a; step = k; inputs = inputs scene table a k }

-- ---- lives

-- the state of application a before step k
abbrev pub state_before : Scene → Table → ℕ → ℕ → List Bool
state_before scene table a zero = opening (app_at scene a).rules
state_before scene table a (suc k) = next_state (app_at scene a).rules (moment scene table a k)

-- what step k of application a puts out where its inputs read the table
unfoldable pub step_output : Scene → Table → ℕ → ℕ → StepOutput
step_output scene table a k = turn (app_at scene a).rules (state_before scene table a k) (moment scene table a k)

-- the life of application a: what all its steps put out where its inputs read the table
abbrev pub life : Scene → Table → ℕ → List StepOutput
life scene table a = map (step_output scene table a) (below (steps scene a))

-- the table of all lives over a table
abbrev pub again : Scene → Table → Table
again scene table = map (life scene table) (below (length scene.apps))

-- ---- the history

-- the table in which each application has no step
abbrev pub no_steps : Scene → Table
no_steps scene = map (λ _. []) scene.apps

-- what again makes of it in n turns
abbrev pub after_turns : Scene → ℕ → Table
after_turns scene zero = no_steps scene
after_turns scene (suc n) = again scene (after_turns scene n)

-- how many steps all applications run together
abbrev pub all_steps : Scene → ℕ
all_steps scene = total_below (steps scene) (length scene.apps)

-- the history of a scene: a turn for each step of it, so that what one step puts out can reach each other one. Where some lawful
-- order of acts finishes every application, and so in each accepted scene, a further turn changes nothing, and no other table is
-- left as it is; in a scene with a cycle of waits that is not covered a further turn may change it
unfoldable pub history : Scene → Table
history scene = after_turns scene (all_steps scene)
