use Rattle.std.proofs.Common.{◌≡◌, ap, length, subst, ◌∙◌}
use Rattle.scene_model.specs.Cover.{AllCovered}
use Rattle.scene_model.specs.Waits.{stated_limits, waits}
use Rattle.tick_plan.proofs.InTurn.{length-stated_limits}
use Rattle.tick_plan.proofs.plan.negotiate.Goals as goal

pub waits-requires-clause-counted : goal.waits-requires-clause-counted
waits-requires-clause-counted c = ap length (c.deref.ensures.value ∙ c.in_ok-stated.ensures.limits) ∙ length-stated_limits c.args.scene.now

pub returns : goal.returns
returns c =
    let plan = c.in_ok-plan_in_turn.ensures in
    let counting : c.in_ok-waits.waits.items ≡ waits c.args.scene.now (stated_limits c.args.scene.now) =
    c.in_ok-waits.ensures.waits ∙ ap (waits c.args.scene.now) (c.deref.ensures.value ∙ c.in_ok-stated.ensures.limits) in
    record { limits = plan.limits; below = plan.below; stated = plan.stated; fits = plan.fits; accepted = subst AllCovered (c.deref-2.ensures.value ∙ counting) c.in_ok-cover_waits.ensures.covered; uncovered = tt }
