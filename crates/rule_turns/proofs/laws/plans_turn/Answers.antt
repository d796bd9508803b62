use Rattle.rule_turns.proofs.Moving.{length-next_state, length-whens, states_move}
use Rattle.rule_turns.proofs.PlanTurns.{plan_turns}
use Rattle.rule_turns.proofs.laws.plans_turn.Goals as goal

pub returns : goal.returns
returns c = record {
  outputs = λ rules state m can are. plan_turns rules state m are can;
  states = states_move;
  whens = length-whens;
  counted = length-next_state;
}
