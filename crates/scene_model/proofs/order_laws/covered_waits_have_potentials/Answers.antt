use Rattle.scene_model.proofs.LeastWalks.{covered_have_potentials}
use Rattle.scene_model.proofs.order_laws.covered_waits_have_potentials.Goals as goal

pub returns : goal.returns
returns c n all between covered = covered_have_potentials n all between covered
