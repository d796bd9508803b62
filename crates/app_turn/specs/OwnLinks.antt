-- The connections of one application, and the place of each among those of its port.
use Rattle.std.specs.Prelude.{ℕ, ◌<◌, ◌≡◌, ◌==◌, ◌&&◌, Bool, List, length, slice_index}
use Rattle.std.specs.List.{filter}
use Rattle.music_base.specs.Numbers.{below}
use Rattle.scene_model.specs.Scenes.{link_at, links_to, receiver, sender}
use Rattle.scene_model.specs.declared.scene.Scene.{Scene}

-- ---- lists

-- the connections that lead to an application, in their order, and those that begin there
unfoldable pub into_of : Scene → ℕ → List ℕ
into_of scene app = filter (λ c. receiver scene c == app) (below (length scene.links))

unfoldable pub out_of : Scene → ℕ → List ℕ
out_of scene app = filter (λ c. sender scene c == app) (below (length scene.links))

-- ---- places

-- two connections lead to one port
abbrev pub same_end : Scene → ℕ → ℕ → Bool
same_end scene c d = receiver scene d == receiver scene c && (link_at scene d).to_port == (link_at scene c).to_port

-- how many connections before this one lead to its port
unfoldable pub place_on : Scene → ℕ → ℕ
place_on scene c = length (filter (same_end scene c) (below c))

-- a connection stands at a place among those of its port
pub record IsPlaceOf (scene : Scene) (app c i : ℕ) : Type 0 where
  pub within : i < length (links_to scene app (link_at scene c).to_port)
  pub is : slice_index (links_to scene app (link_at scene c).to_port) i ≡ c
