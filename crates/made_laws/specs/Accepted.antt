-- What the configuration that is made from a number describes.
use Rattle.std.specs.Prelude.{◌≡◌, ℕ, Ok}
use Rattle.scene_model.specs.Waits.{IsAccepted}
use Rattle.scene_model.specs.declared.scene.Scene.{Scene}
use Rattle.music_setup.specs.Scenes.{scene_of}
use Rattle.scene_make.specs.Made.{made}

-- a scene without a fault, of which every cycle of waits is covered
abbrev pub MakesAccepted : ℕ → Type 0
MakesAccepted n = (scene : Scene) × (scene_of (made n) ≡ Ok scene) × IsAccepted scene
