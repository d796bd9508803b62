-- Scenes whose connections state nothing of their own: what the definitions come to there.
use Rattle.std.specs.Prelude.{◌≡◌, ℕ, ◌<◌, length, Option, None}
use Rattle.scene_model.specs.Scenes.{input_of, link_at, output_of}
use Rattle.scene_model.specs.Waits.{at_most, greatest_limit, stated_by}
use Rattle.scene_model.specs.declared.scene.Scene.{Scene}

-- no connection states a latency, or how many blocks it keeps
pub record StateNothing (scene : Scene) : Type 0 where
  pub latencies : (c : ℕ) → c < length scene.links → (link_at scene c).latency ≡ None
  pub buffers : (c : ℕ) → c < length scene.links → (link_at scene c).buffered ≡ None

-- the latency and the delay of a connection are those of its input
unfoldable pub latency : Scene → ℕ → ℕ
latency scene c = (input_of scene c).latency

unfoldable pub delay : Scene → ℕ → ℕ
delay scene c = (input_of scene c).delay

-- the stated limit of a connection is what its ends state together
unfoldable pub stated : Scene → ℕ → Option ℕ
stated scene c = at_most greatest_limit (stated_by scene c (output_of scene c).buffered (input_of scene c).buffered)
