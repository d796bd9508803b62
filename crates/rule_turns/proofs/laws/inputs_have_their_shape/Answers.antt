use Rattle.rule_turns.proofs.Conditions.{inputs_are}
use Rattle.rule_turns.proofs.laws.inputs_have_their_shape.Goals as goal

pub returns : goal.returns
returns c = inputs_are
