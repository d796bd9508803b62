use Rattle.rule_turns.proofs.Conditions.{can_turn}
use Rattle.rule_turns.proofs.laws.applications_can_turn.Goals as goal

pub returns : goal.returns
returns c = can_turn
