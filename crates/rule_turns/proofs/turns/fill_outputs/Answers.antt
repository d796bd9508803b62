use Rattle.std.proofs.Common.{ℕ, ◌≡◌, ◌+◌, ◌*◌, ◌^◌, ◌≤◌, Bool, List, length, map, subst, ◌∙◌, ap, sym}
use Rattle.std.specs.Prelude.{OnOk, slice_index_or}
use Rattle.std.proofs.lemmas.List.{length-map}
use Rattle.scene_model.specs.Scenes.{no_port}
use Rattle.scene_model.specs.Tables.{StepOutput}
use Rattle.scene_model.specs.Turns.{Moment}
use Rattle.rule_turns.specs.declared.plan.PortUses.{PortUses}
use Rattle.rule_turns.specs.declared.plan.TurnPlan.{TurnPlan}
use Rattle.rule_turns.specs.Plans.{turn_plan, uses_of_port}
use Rattle.rule_turns.specs.Turning.{IsPlanned, by_plan, no_uses, step_in}
use Rattle.rule_turns.proofs.Conditions.{clock_early, numbers_of}
use Rattle.rule_turns.proofs.Placing.{planned_ports}
use Rattle.rule_turns.proofs.PlanTurns.{plan_turns}
use Rattle.rule_turns.proofs.turns.fill_outputs.Goals as goal

pub step_outputs-requires-clause-step : goal.step_outputs-requires-clause-step
step_outputs-requires-clause-step c = record {
  numbers = numbers_of c.args.ports.now c.args.tick c.args.rules.now c.requires.tick c.requires.can;
  few = c.requires.step;
  early = clock_early c.start.inside.0 c.args.step c.tick.inside.0
      (subst (λ (s : ℕ). s ≤ 10 ^ 15) (sym c.start.view_is) c.requires.start) c.requires.step (subst (λ (t : ℕ). t ≤ 10 ^ 12) (sym c.tick.view_is) c.requires.tick);
}

pub step_outputs-requires-clause-each : goal.step_outputs-requires-clause-each
unfolding turn_plan
step_outputs-requires-clause-each c =
    let plans : c.as_slice-2.result.now ≡ map (uses_of_port c.args.ports.now c.args.rules.now) c.args.ports.now = c.as_slice-2.ensures ∙ ap (λ (plan : TurnPlan). plan.ports) c.requires.planned in
    ap (λ (us : List PortUses). length us) plans ∙ length-map c.args.ports.now (uses_of_port c.args.ports.now c.args.rules.now)

pub step_outputs-requires-clause-planned : goal.step_outputs-requires-clause-planned
step_outputs-requires-clause-planned c p lt =
    let plans : c.as_slice-2.result.now ≡ (turn_plan c.args.ports.now c.args.rules.now).ports = c.as_slice-2.ensures ∙ ap (λ (plan : TurnPlan). plan.ports) c.requires.planned in
    subst (λ (us : List PortUses). IsPlanned c.args.rules.now c.args.inputs.now (slice_index_or c.args.ports.now p no_port) (slice_index_or us p no_uses)) (sym plans)
    (planned_ports c.args.ports.now c.args.inputs.now c.requires.inputs c.args.rules.now c.args.tick c.requires.can p lt)

pub returns : goal.returns
unfolding step_in
returns c =
    let rules = c.args.rules.now in
    let ports = c.args.ports.now in
    let inputs = c.args.inputs.now in
    let step = c.args.step in
    let P : ℕ → ℕ → List Bool → List PortUses → Type 0 = λ s t state plans. OnOk c.step_outputs.result
    (c.step_outputs.new.outputs.items ≡ by_plan (record { rules = rules; state = state; inputs = inputs; number = step; from = s + step * t; to = s + step * t + t }) ports plans) in
    let m : Moment = record { ports = ports; start = c.args.start; tick = c.args.tick; step = step; inputs = inputs } in
    let plans : c.as_slice-2.result.now ≡ (turn_plan ports rules).ports = c.as_slice-2.ensures ∙ ap (λ (plan : TurnPlan). plan.ports) c.requires.planned in
    let by_start : P c.args.start c.tick.inside.0 c.as_slice.result.now c.as_slice-2.result.now =
    subst (λ (s : ℕ). P s c.tick.inside.0 c.as_slice.result.now c.as_slice-2.result.now) c.start.view_is c.step_outputs.ensures in
    let by_tick : P c.args.start c.args.tick c.as_slice.result.now c.as_slice-2.result.now =
    subst (λ (t : ℕ). P c.args.start t c.as_slice.result.now c.as_slice-2.result.now) c.tick.view_is by_start in
    let by_state : P c.args.start c.args.tick c.args.state.now c.as_slice-2.result.now =
    subst (λ (state : List Bool). P c.args.start c.args.tick state c.as_slice-2.result.now) c.as_slice.ensures by_tick in
    let by_plans : P c.args.start c.args.tick c.args.state.now (turn_plan ports rules).ports =
    subst (P c.args.start c.args.tick c.args.state.now) plans by_state in
    subst (λ (out : StepOutput). OnOk c.step_outputs.result (c.step_outputs.new.outputs.items ≡ out)) (plan_turns rules c.args.state.now m c.requires.inputs c.requires.can) by_plans
