-- What a connection is in a scene without a fault, by its place.
use Rattle.std.specs.Prelude.{◌≡◌, ℕ, ◌<◌, ◌≤◌, length}
use Rattle.music_base.specs.Times.{greatest_time}
use Rattle.scene_model.specs.Clocks.{delay, latency}
use Rattle.scene_model.specs.Scenes.{app_at, input_of, link_at, output_of, receiver, sender}
use Rattle.scene_model.specs.declared.port.Direction.TheVariants.{Output, Input}
use Rattle.scene_model.specs.declared.scene.Scene.{Scene}

-- it leads from an output of an application of the scene to an input of one, and both carry the same
pub record IsConnection (scene : Scene) (c : ℕ) : Type 0 where
  pub from_app : sender scene c < length scene.apps
  pub from_port : (link_at scene c).from_port < length (app_at scene (sender scene c)).ports
  pub to_app : receiver scene c < length scene.apps
  pub to_port : (link_at scene c).to_port < length (app_at scene (receiver scene c)).ports
  pub from_output : (output_of scene c).direction ≡ Output
  pub to_input : (input_of scene c).direction ≡ Input
  pub of_one_kind : (output_of scene c).kind ≡ (input_of scene c).kind
  pub latency : latency scene c ≤ greatest_time
  pub delay : delay scene c ≤ greatest_time
