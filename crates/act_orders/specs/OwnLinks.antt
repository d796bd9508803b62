-- The connections of one application.
use Rattle.std.specs.Prelude.{ℕ, ◌==◌, List, length}
use Rattle.std.specs.List.{filter}
use Rattle.music_base.specs.Numbers.{below}
use Rattle.scene_model.specs.Scenes.{receiver, sender}
use Rattle.scene_model.specs.declared.scene.Scene.{Scene}

-- the connections that lead to an application, in their order, and those that begin there
unfoldable pub into_of : Scene → ℕ → List ℕ
into_of scene app = filter (λ c. receiver scene c == app) (below (length scene.links))

unfoldable pub out_of : Scene → ℕ → List ℕ
out_of scene app = filter (λ c. sender scene c == app) (below (length scene.links))
