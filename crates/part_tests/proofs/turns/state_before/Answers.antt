use Rattle.std.proofs.Common.{◌∙◌, ap, length}
use Rattle.rule_turns.specs.declared.plan.TurnPlan.{TurnPlan}
use Rattle.rule_turns.proofs.Moving.{length-whens}
use Rattle.part_tests.proofs.turns.state_before.Goals as goal

pub state_after-requires : goal.state_after-requires
state_after-requires c = rw c.as_slice-rules.ensures (ap (λ (plan : TurnPlan). length plan.whens) c.requires ∙ length-whens c.args.app.now.ports c.args.app.now.rules)
