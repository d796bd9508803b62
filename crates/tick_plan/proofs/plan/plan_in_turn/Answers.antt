use Rattle.std.proofs.Common.{◌≡◌, ◌≤◌, ℕ, ℤ, pos, ◌≤ℤ◌, All, List, Some, length, map, ap, subst, ◌∙◌, arith}
use Rattle.std.specs.Prelude.{neg_ℤ}
use Rattle.std.specs.Int.{IsInRange}
use Rattle.std.specs.Option.{is_some}
use Rattle.std.proofs.lemmas.List.{length-map}
use Rattle.std.proofs.lemmas.List.Elements.{All-weaker}
use Rattle.scene_model.specs.Cover.{Passes}
use Rattle.scene_model.specs.Waits.{AreLimits, Fits, greatest_limit, greatest_potential, stated_limits, waits}
use Rattle.scene_model.specs.declared.scene.Scene.{Scene}
use Rattle.scene_model.specs.declared.wait.Wait.{Wait}
use Rattle.tick_plan.specs.Choices.{AreSame}
use Rattle.tick_plan.specs.Plans.{IsPotential}
use Rattle.tick_plan.proofs.InTurn.{length-stated_limits}
use Rattle.tick_plan.proofs.SceneLimits.{AreSame-All}
use Rattle.tick_plan.proofs.plan.plan_in_turn.Goals as goal

fits_from : (scene : Scene) (n : ℕ) (limits : List ℕ) (counting : List Wait) (potentials : List ℤ) → n ≡ length scene.apps → AreLimits scene limits → All (IsInRange 1 greatest_limit) limits →
    AreSame counting (waits scene (map (λ (m : ℕ). Some m) limits)) → length potentials ≡ n → All IsPotential potentials → All (Passes n potentials) counting → Fits scene limits potentials
fits_from scene n limits counting potentials is are in_range same counted near passed = record {
  limits_counted = are.counted;
  potentials_counted = counted ∙ is;
  limits_from = All-weaker (IsInRange 1 greatest_limit) (λ m. 1 ≤ m) (λ m h. h.0) limits in_range;
  limits_to = All-weaker (IsInRange 1 greatest_limit) (λ m. m ≤ greatest_limit) (λ m h. h.1) limits in_range;
  potentials_from = All-weaker IsPotential (λ x. neg_ℤ (pos greatest_potential) ≤ℤ x) (λ x i. i.from) potentials near;
  potentials_to = All-weaker IsPotential (λ x. x ≤ℤ pos greatest_potential) (λ x i. i.to) potentials near;
  passed = AreSame-All (Passes (length scene.apps) potentials) counting (waits scene (map (λ (m : ℕ). Some m) limits)) same (subst (λ k. All (Passes k potentials) counting) is passed);
}

pub potentials-requires : goal.potentials-requires
potentials-requires c =
    let limits = c.in_ok-limits.ensures in
    record {
      few = omega (arith, c.len.ensures, c.requires.scene.apps.few);
      within = rw (c.len.ensures, c.deref.ensures.value) limits.within;
      covered = rw c.deref.ensures.value limits.covered;
    }

pub returns : goal.returns
returns c =
    let limits = c.in_ok-limits.ensures in
    let potentials = c.in_ok-potentials.ensures in
    let read : c.deref.result.now ≡ c.limits_in_turn.new.counting.items = c.deref.ensures.value in
    let P : List Wait → Type 0 = λ ws. All (Passes c.len.result c.in_ok-potentials.potentials.items) ws in
    let stated : c.in_ok-stated.stated.items ≡ map is_some (stated_limits c.args.scene.now) = c.in_ok-stated.ensures ∙ ap (map is_some) c.requires.stated in
    record {
      limits = limits.limits;
      below = limits.below;
      stated = stated;
      fits = record {
        stated_counted = ap length stated ∙ length-map (stated_limits c.args.scene.now) is_some ∙ length-stated_limits c.args.scene.now;
        fits = fits_from c.args.scene.now c.len.result c.in_ok-limits.limits.items c.limits_in_turn.new.counting.items c.in_ok-potentials.potentials.items c.len.ensures limits.limits limits.in_range
            limits.counting potentials.counted potentials.near (subst P read potentials.passed);
      };
    }
