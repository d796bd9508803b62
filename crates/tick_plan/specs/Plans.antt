-- Plans of a scene.
use Rattle.std.specs.Prelude.{◌≡◌, ℤ, pos, neg_ℤ, ◌≤ℤ◌, length, All}
use Rattle.std.specs.Int.{IsInRange}
use Rattle.scene_model.specs.Waits.{Fits, greatest_limit, greatest_potential}
use Rattle.scene_model.specs.declared.scene.Scene.{Scene}
use Rattle.tick_plan.specs.declared.plan.Plan.{Plan}

-- the number is at most the greatest potential away from zero
pub record IsPotential (x : ℤ) : Type 0 where
  pub from : neg_ℤ (pos greatest_potential) ≤ℤ x
  pub to : x ≤ℤ pos greatest_potential

-- its limits and potentials fit the scene, and it says of each connection whether its limit is stated
pub record PlanFits (scene : Scene) (plan : Plan) : Type 0 where
  pub stated_counted : length plan.stated.items ≡ length scene.links
  pub fits : Fits scene plan.limits.items plan.potentials.items

-- what a plan says by itself: a limit of each connection, and a potential of each application, in their ranges
pub record HasRanges (scene : Scene) (plan : Plan) : Type 0 where
  pub stated_counted : length plan.stated.items ≡ length scene.links
  pub limits_counted : length plan.limits.items ≡ length scene.links
  pub potentials_counted : length plan.potentials.items ≡ length scene.apps
  pub limits : All (IsInRange 1 greatest_limit) plan.limits.items
  pub potentials : All IsPotential plan.potentials.items
