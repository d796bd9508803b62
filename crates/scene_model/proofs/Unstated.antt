-- What the definitions come to where connections state nothing of their own.
use Rattle.std.proofs.Common.{◌≡◌, ℕ, ◌<◌, length, refl}
use Rattle.scene_model.specs.Clocks.{delay, latency}
use Rattle.scene_model.specs.Unstated.{StateNothing}
use Rattle.scene_model.specs.Unstated as unstated
use Rattle.scene_model.specs.Waits.{stated}
use Rattle.scene_model.specs.declared.scene.Scene.{Scene}

module _ (scene : Scene) (is : StateNothing scene) where
  pub latency-is : (c : ℕ) → c < length scene.links → latency scene c ≡ unstated.latency scene c
  unfolding latency unstated.latency
  latency-is c link = rw (is.latencies c link) refl

  pub delay-is : (c : ℕ) → c < length scene.links → delay scene c ≡ unstated.delay scene c
  unfolding delay unstated.delay
  delay-is c link = rw (is.latencies c link) refl

  pub stated-is : (c : ℕ) → c < length scene.links → stated scene c ≡ unstated.stated scene c
  unfolding stated unstated.stated
  stated-is c link = rw (is.buffers c link) refl
