use Rattle.std.proofs.Common.{◌≡◌, ◌∙◌, ◌+◌, ap, refl, sym}
use Rattle.std.specs.Prelude.{slice_index}
use Rattle.std.specs.Arc.{arc_value}
use Rattle.std.proofs.lemmas.Result.{MatchResult-from_err}
use Rattle.scene_model.specs.Scenes.{app_at}
use Rattle.scene_model.specs.declared.scene.AppDecl.{AppDecl}
use Rattle.app_turn.specs.Steps.{block_for}
use Rattle.app_turn.proofs.Acts.{needs_small, out_pending, out_small, paces_fit}
use Rattle.app_turn.proofs.Moves.{delivered_is, delivered_same, each_needed, each_owed, inboxes_wanted, moved_on, next_small, plan_whens, ran, ran_is, steps_small}
use Rattle.app_turn.proofs.machine.AppMachine.run.Goals as goal

pub make_step-requires-clause-step : goal.make_step-requires-clause-step
make_step-requires-clause-step c = steps_small _ _ c.self.invariant (rw (← c.self.view_is) at c.requires)

pub make_step-requires-clause-links : goal.make_step-requires-clause-links
make_step-requires-clause-links c = rw (c.deref.ensures, c.deref-3.ensures.value) (out_small _ _ c.self.invariant)

pub make_step-requires-clause-wanted : goal.make_step-requires-clause-wanted
make_step-requires-clause-wanted c = rw c.deref.ensures (inboxes_wanted _ _ c.self.invariant (rw (← c.self.view_is) at c.requires))

pub invariant_of-self : goal.invariant_of-self
invariant_of-self c = delivered_is _ _ c.self.invariant (rw (← c.self.view_is) at c.requires) _ c.in_err-make_step.ensures.counted c.in_err-make_step.ensures.settled

pub returns-in_err-make_step : goal.returns-in_err-make_step
returns-in_err-make_step c = MatchResult-from_err c.from_residual.result _ _ c.from_residual.ensures.0 (λ y. delivered_same _ _ c.self.invariant (rw (← c.self.view_is) at c.requires) _ c.in_err-make_step.ensures.counted c.in_err-make_step.ensures.settled ∙ c.self.view_is)

pub move_on-requires : goal.move_on-requires
move_on-requires c = plan_whens _ _ _ _ c.self.invariant.planned c.self.invariant.truth_count

pub need-requires-clause-step : goal.need-requires-clause-step
need-requires-clause-step c = next_small _ _ c.self.invariant (rw (← c.self.view_is) at c.requires)

pub need-requires-clause-links : goal.need-requires-clause-links
need-requires-clause-links c = rw (c.deref-6.ensures.value, c.self.invariant.paced) (needs_small _ _ c.self.invariant)

pub need-requires-clause-paces : goal.need-requires-clause-paces
need-requires-clause-paces c = rw (c.deref-6.ensures.value, c.self.invariant.paced) (paces_fit _ _ c.self.invariant)

pub owe-requires-clause-links : goal.owe-requires-clause-links
owe-requires-clause-links c = rw c.deref-7.ensures.value (out_pending _ _ c.self.invariant)

pub invariant_of-self-2 : goal.invariant_of-self-2
invariant_of-self-2 c =
    let wants = rw (← c.self.view_is) at c.requires in
    let made = rw (c.deref.ensures, c.deref-2.ensures.value, c.deref-3.ensures.value) at c.in_ok-make_step.ensures.made in
    let scene = arc_value c.self.inside.scene in
    let rules : c.as_slice-rules.result.now ≡ (app_at scene c.self.inside.app).rules = c.as_slice-rules.ensures ∙ ap (λ (a : AppDecl). a.rules) (rw c.deref-4.ensures at c.app.ensures) in
    let next = moved_on _ _ c.self.invariant c.as_slice-rules.result.now c.self.inside.plan c.make_step.new.made.inputs.items c.move_on.new.self rules refl made.shaped
    (λ n can shaped planned same. c.move_on.ensures.moved n can shaped planned (same ∙ sym c.deref-5.ensures.value)) in
    let needs = each_needed _ _ c.self.invariant c.need.new.needs.items (c.self.inside.ran + 1) (c.need.ensures.each (arc_value c.self.inside.scene) c.self.inside.into.items (c.deref-6.ensures.value ∙ c.self.invariant.paced)) in
    let each = rw c.deref-7.ensures.value at c.owe.ensures.each in
    let owed = each_owed _ _ c.self.invariant c.owe.new.pending.items (λ d. block_for scene c.self.inside.ran made.outputs (slice_index c.self.inside.most.items d) d)
    (each (λ d. block_for scene c.self.inside.ran made.outputs (slice_index c.self.inside.most.items d) d) made.blocks_are) in
    ran_is _ _ c.self.invariant wants _ c.in_ok-make_step.ensures.counted c.in_ok-make_step.ensures.settled c.make_step.new.made made _ next _ (c.need.ensures.count ∙ c.self.invariant.need_count) needs _ (c.owe.ensures.count ∙ c.self.invariant.pendings) owed

pub returns : goal.returns
returns c =
    let wants = rw (← c.self.view_is) at c.requires in
    let made = rw (c.deref.ensures, c.deref-2.ensures.value, c.deref-3.ensures.value) at c.in_ok-make_step.ensures.made in
    let scene = arc_value c.self.inside.scene in
    let rules : c.as_slice-rules.result.now ≡ (app_at scene c.self.inside.app).rules = c.as_slice-rules.ensures ∙ ap (λ (a : AppDecl). a.rules) (rw c.deref-4.ensures at c.app.ensures) in
    let next = moved_on _ _ c.self.invariant c.as_slice-rules.result.now c.self.inside.plan c.make_step.new.made.inputs.items c.move_on.new.self rules refl made.shaped
    (λ n can shaped planned same. c.move_on.ensures.moved n can shaped planned (same ∙ sym c.deref-5.ensures.value)) in
    let needs = each_needed _ _ c.self.invariant c.need.new.needs.items (c.self.inside.ran + 1) (c.need.ensures.each (arc_value c.self.inside.scene) c.self.inside.into.items (c.deref-6.ensures.value ∙ c.self.invariant.paced)) in
    let each = rw c.deref-7.ensures.value at c.owe.ensures.each in
    let owed = each_owed _ _ c.self.invariant c.owe.new.pending.items (λ d. block_for scene c.self.inside.ran made.outputs (slice_index c.self.inside.most.items d) d)
    (each (λ d. block_for scene c.self.inside.ran made.outputs (slice_index c.self.inside.most.items d) d) made.blocks_are) in
    rw (c.replace.ensures.value, ← c.self.view_is) (ran _ _ c.self.invariant wants _ c.in_ok-make_step.ensures.counted c.in_ok-make_step.ensures.settled c.make_step.new.made made _ next _ (c.need.ensures.count ∙ c.self.invariant.need_count) needs _ (c.owe.ensures.count ∙ c.self.invariant.pendings) owed)
