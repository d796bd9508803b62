use Rattle.std.proofs.Common.{length, ◌∙◌, sym, ap, refl}
use Rattle.scene_model.specs.Turns.{Moment}
use Rattle.rule_turns.specs.declared.plan.TurnPlan.{TurnPlan}
use Rattle.rule_turns.proofs.Moving.{length-whens}
use Rattle.rule_turns.proofs.turns.turn.Goals as goal

pub move_on-requires : goal.move_on-requires
move_on-requires c = c.requires.state ∙ sym (length-whens c.args.ports.now c.args.rules.now) ∙ sym (ap (λ (plan : TurnPlan). length plan.whens) c.in_ok-plan.ensures)

pub returns-clause-state : goal.returns-clause-state
returns-clause-state c =
    let m : Moment = record { ports = c.args.ports.now; start = c.args.start; tick = c.args.tick; step = c.args.step; inputs = c.args.inputs.now } in
    c.move_on.ensures.moved m c.requires.can c.requires.inputs c.in_ok-plan.ensures refl
