use Rattle.rule_turns.proofs.Conditions.{can_turn}
use Rattle.part_tests.proofs.turns.outputs.Goals as goal

pub turn-requires-clause-can : goal.turn-requires-clause-can
turn-requires-clause-can c = rw (c.as_slice-ports.ensures, c.as_slice-rules.ensures) (can_turn c.args.app.now c.requires.app)
