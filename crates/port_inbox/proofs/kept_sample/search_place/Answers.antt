use Rattle.port_inbox.proofs.Placing.{first_place-is}
use Rattle.port_inbox.proofs.kept_sample.search_place.Goals as goal

pub returns : goal.returns
returns c = rw c.first_place.ensures (first_place-is c.args.indices.now c.args.global)
