use Rattle.made_laws.proofs.Accepted.{makes_accepted}
use Rattle.made_laws.proofs.laws.made_scenes_are_accepted.Goals as goal

pub returns : goal.returns
returns c = makes_accepted
