use Rattle.std.proofs.Common.{◌≡◌, ◌∙◌, ap, sym, map, List}
use Rattle.scene_model.specs.Tables.{StepOutput}
use Rattle.rule_turns.specs.Plans.{turn_plan}
use Rattle.rule_turns.specs.Turning.{use_over_at}
use Rattle.rule_turns.specs.declared.plan.RuleUse.{RuleUse}
use Rattle.rule_turns.specs.declared.plan.TurnPlan.{TurnPlan}
use Rattle.rule_turns.proofs.PlanTurns.{plan_moves}
use Rattle.rule_turns.proofs.state.ScriptState.move_on.Goals as goal

pub returns-clause-moved : goal.returns-clause-moved
returns-clause-moved c m can are planned is =
    let rules = c.args.rules.now in
    let whens : c.as_slice.result.now ≡ (turn_plan m.ports rules).whens = c.as_slice.ensures ∙ ap (λ (plan : TurnPlan). plan.whens) planned in
    c.move_by.ensures
    ∙ ap (λ (inputs : StepOutput). map (use_over_at rules inputs) c.as_slice.result.now) (sym is)
    ∙ ap (λ (us : List RuleUse). map (use_over_at rules m.inputs) us) whens
    ∙ plan_moves rules m can are
