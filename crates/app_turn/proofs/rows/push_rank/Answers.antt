use Rattle.app_turn.proofs.ValueItems.{read_ascends}
use Rattle.app_turn.proofs.rows.push_rank.Goals as goal

pub push_values-requires-clause-ascend : goal.push_values-requires-clause-ascend
push_values-requires-clause-ascend c = read_ascends c.args.decl.now.direction c.args.decl.now.kind c.args.decl.now c.args.items.now c.in-Input-Values.is-0 c.in-Input-Values.is-1 c.requires.shaped
