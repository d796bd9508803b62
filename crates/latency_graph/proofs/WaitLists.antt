-- The waits of the first connections, and the bounds on their numbers.
use Rattle.std.proofs.Common.{◌≡◌, ℕ, ◌+◌, List, ◌++◌, get_or, None, zero-add, append-nil}
use Rattle.std.specs.List.{flat_map}
use Rattle.std.proofs.lemmas.List.Concat.{flat_map-append}
use Rattle.music_base.specs.Numbers.{below}
use Rattle.music_base.proofs.Lists.{range_with_len-more}
use Rattle.scene_model.specs.Waits.{Limits, waits_of}
use Rattle.scene_model.specs.declared.scene.Scene.{Scene}
use Rattle.scene_model.specs.declared.wait.Wait.{Wait}

-- the waits of the first n connections
abbrev pub waits_below : Scene → Limits → ℕ → List Wait
waits_below scene limits n = flat_map (λ c. waits_of scene c (get_or limits c None)) (below n)

-- the waits of one connection more
pub waits_below-more : (scene : Scene) (limits : Limits) (n : ℕ) → waits_below scene limits (n + 1) ≡ waits_below scene limits n ++ waits_of scene n (get_or limits n None)
waits_below-more scene limits n =
    rw (range_with_len-more 0 n, flat_map-append, zero-add, append-nil)
