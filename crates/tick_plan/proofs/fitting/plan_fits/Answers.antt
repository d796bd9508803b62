use Rattle.std.proofs.Common.{◌≡◌, ◌≤◌, ◌↔◌, ℕ, ℤ, pos, ◌≤ℤ◌, All, IsTrue, List, Some, length, map, refl, ap, subst, sym, ◌∙◌, Bool}
use Rattle.std.specs.Prelude.{neg_ℤ}
use Rattle.std.specs.Int.{IsInRange}
use Rattle.std.proofs.lemmas.List.{length-map}
use Rattle.std.proofs.lemmas.List.Elements.{All-map, All-same, All-weaker}
use Rattle.scene_model.specs.Cover.{Passes}
use Rattle.scene_model.specs.Waits.{IsLawfulLimit, greatest_limit, greatest_potential, waits}
use Rattle.scene_model.specs.declared.scene.Scene.{Scene}
use Rattle.scene_model.specs.declared.wait.Wait.{Wait}
use Rattle.tick_plan.specs.Plans.{HasRanges, PlanFits, IsPotential}
use Rattle.tick_plan.specs.declared.plan.Plan.{Plan}
use Rattle.tick_plan.proofs.fitting.plan_fits.Goals as goal

pub waits-requires-clause-lawful : goal.waits-requires-clause-lawful
waits-requires-clause-lawful c =
    let ranges = c.if-not-has_ranges.ensures.0 refl in
    All-same IsLawfulLimit c.deref-2.result.now _ (c.deref-2.ensures.value ∙ c.in_ok-given.ensures ∙ ap (map (λ (m : ℕ). Some m)) c.deref.ensures.value)
    (All-map IsLawfulLimit (λ (m : ℕ). Some m) c.args.plan.now.limits.items ranges.limits)

-- a plan within its ranges fits where all waits pass
fits_from : (scene : Scene) (plan : Plan) → HasRanges scene plan →
    All (Passes (length plan.potentials.items) plan.potentials.items) (waits scene (map (λ (m : ℕ). Some m) plan.limits.items)) → PlanFits scene plan
fits_from scene plan h passed = record {
  stated_counted = h.stated_counted;
  fits = record {
    limits_counted = h.limits_counted;
    potentials_counted = h.potentials_counted;
    limits_from = All-weaker (IsInRange 1 greatest_limit) (λ m. 1 ≤ m) (λ m i. i.0) plan.limits.items h.limits;
    limits_to = All-weaker (IsInRange 1 greatest_limit) (λ m. m ≤ greatest_limit) (λ m i. i.1) plan.limits.items h.limits;
    potentials_from = All-weaker IsPotential (λ x. neg_ℤ (pos greatest_potential) ≤ℤ x) (λ x i. i.from) plan.potentials.items h.potentials;
    potentials_to = All-weaker IsPotential (λ x. x ≤ℤ pos greatest_potential) (λ x i. i.to) plan.potentials.items h.potentials;
    passed = subst (λ (n : ℕ). All (Passes n plan.potentials.items) (waits scene (map (λ (m : ℕ). Some m) plan.limits.items))) h.potentials_counted passed;
  };
}

fits_is : (scene : Scene) (plan : Plan) (potentials : List ℤ) (found : List Wait) (b : Bool) → HasRanges scene plan → potentials ≡ plan.potentials.items →
    found ≡ waits scene (map (λ (m : ℕ). Some m) plan.limits.items) → (IsTrue b ↔ All (Passes (length potentials) potentials) found) → IsTrue b ↔ PlanFits scene plan
fits_is scene plan potentials found b h potentials_is found_is tested =
    let P : List ℤ → Type 0 = λ ps. All (Passes (length ps) ps) (waits scene (map (λ (m : ℕ). Some m) plan.limits.items)) in
    let Q : List Wait → Type 0 = λ ws. All (Passes (length potentials) potentials) ws in (
      λ yes. fits_from scene plan h (subst P potentials_is (subst Q found_is (tested.0 yes))),
      λ plan_of.
          let passed = subst (λ (n : ℕ). All (Passes n plan.potentials.items) (waits scene (map (λ (m : ℕ). Some m) plan.limits.items))) (sym h.potentials_counted) plan_of.fits.passed in
          tested.1 (subst Q (sym found_is) (subst P (sym potentials_is) passed)),
    )

pub returns : goal.returns
returns c =
    let ranges = c.if-not-has_ranges.ensures.0 refl in
    let given = c.deref-2.ensures.value ∙ c.in_ok-given.ensures ∙ ap (map (λ (m : ℕ). Some m)) c.deref.ensures.value in
    fits_is c.args.scene.now c.args.plan.now c.deref-3.result.now c.deref-4.result.now c.all_pass.result ranges c.deref-3.ensures.value
    (c.deref-4.ensures.value ∙ c.in_ok-waits.ensures.waits ∙ ap (waits c.args.scene.now) given) c.all_pass.ensures

pub all_pass-requires : goal.all_pass-requires
all_pass-requires c =
    let ranges = c.if-not-has_ranges.ensures.0 refl in
    record {
      few = rw (c.deref-3.ensures.value, ranges.potentials_counted) c.requires.apps.few;
      within = rw (c.deref-4.ensures.value, c.deref-3.ensures.value, ranges.potentials_counted) c.in_ok-waits.ensures.within;
      potentials = rw c.deref-3.ensures.value ranges.potentials;
    }

pub waits-requires-clause-counted : goal.waits-requires-clause-counted
waits-requires-clause-counted c =
    let ranges = c.if-not-has_ranges.ensures.0 refl in
    ap length (c.deref-2.ensures.value ∙ c.in_ok-given.ensures ∙ ap (map (λ (m : ℕ). Some m)) c.deref.ensures.value)
    ∙ length-map c.args.plan.now.limits.items (λ (m : ℕ). Some m) ∙ ranges.limits_counted
