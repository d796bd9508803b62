-- What the laws on waits and orders need of a scene. Each scene without a fault has it.
use Rattle.std.specs.Prelude.{◌≤◌, ◌<◌, ℕ, length, IfSome}
use Rattle.scene_model.specs.Scenes.{sender, receiver}
use Rattle.scene_model.specs.Clocks.{tick}
use Rattle.scene_model.specs.Waits.{stated}
use Rattle.scene_model.specs.declared.scene.Scene.{Scene}

-- applications have a tick, connections lead from an application to an application, and a limit that is stated leaves
-- room for a block
pub record IsWellFormed (scene : Scene) : Type 0 where
  pub ticks : (a : ℕ) → a < length scene.apps → 1 ≤ tick scene a
  pub senders : (c : ℕ) → c < length scene.links → sender scene c < length scene.apps
  pub receivers : (c : ℕ) → c < length scene.links → receiver scene c < length scene.apps
  pub room : (c : ℕ) → c < length scene.links → IfSome (stated scene c) (λ m. 1 ≤ m)
