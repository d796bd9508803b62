-- An accepted scene is live under its limits.
use Rattle.std.proofs.Common.{◌≡◌, ℕ, ◌<◌, ◌≤◌, subst, arith, List, length, map, Option, None, Some, ℤ}
use Rattle.std.specs.Prelude.{slice_index, IfSome}
use Rattle.scene_model.specs.declared.scene.Scene.{Scene}
use Rattle.scene_model.specs.Cover.{AllCovered}
use Rattle.scene_model.specs.Orders.{IsLive}
use Rattle.scene_model.specs.Waits.{waits, stated, IsAccepted, IsLimit, AreLimits}
use Rattle.scene_model.specs.WellFormed.{IsWellFormed}
use Rattle.scene_model.proofs.Chosen.{accepted_have_limits, have_potentials}
use Rattle.scene_model.proofs.Enabled.{live}
use Rattle.scene_model.proofs.OneLimits.{limits_same}
use Rattle.scene_model.proofs.SceneWaits.{EachPasses, each_passes}

limits_some : (scene : Scene) → IsWellFormed scene → (limits : List ℕ) → AreLimits scene limits → (c : ℕ) → c < length scene.links → 1 ≤ slice_index limits c
limits_some scene ok limits are c link = go (stated scene c) (ok.room c link) (are.each c (omega (arith, are.counted)))
  where
    go : (o : Option ℕ) → IfSome o (λ m. 1 ≤ m) → IsLimit scene limits c o → 1 ≤ slice_index limits c
    go None room is = is.some
    go (Some m) room is = let e : slice_index limits c ≡ m = is in omega arith

-- its limits are the one list of them, with which every cycle is covered
limits_cover : (scene : Scene) → IsWellFormed scene → IsAccepted scene → (limits : List ℕ) → AreLimits scene limits → AllCovered (waits scene (map (λ m. Some m) limits))
limits_cover scene ok accepted limits are =
    let found = accepted_have_limits scene ok accepted in
    subst (λ ys. AllCovered (waits scene (map (λ m. Some m) ys))) (limits_same scene found.0 limits found.1.0 are) found.1.1

pub accepted_pass : (scene : Scene) → IsWellFormed scene → IsAccepted scene → (limits : List ℕ) → AreLimits scene limits → (potentials : List ℤ) × EachPasses scene limits potentials
accepted_pass scene ok accepted limits are =
    let found = have_potentials scene ok (map (λ m. Some m) limits) (limits_cover scene ok accepted limits are) in
    (found.0, each_passes scene limits found.0 are.counted (limits_some scene ok limits are) found.2)

pub accepted_live : (scene : Scene) → IsWellFormed scene → IsAccepted scene → (limits : List ℕ) → AreLimits scene limits → IsLive scene limits
accepted_live scene ok accepted limits are = let found = accepted_pass scene ok accepted limits are in live scene ok limits found.0 are.counted found.1
