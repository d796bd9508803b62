use Rattle.app_turn.proofs.ValueItems.{found_there}
use Rattle.app_turn.proofs.rows.value_there.Goals as goal

pub returns : goal.returns
returns c = found_there c.args.items.now c.args.place c.args.index c.value_at.result c.requires c.value_at.ensures
