use Rattle.scene_model.proofs.Finish.{actor_unfinished}
use Rattle.scene_model.proofs.order_laws.acts_are_of_unfinished.Goals as goal

pub returns : goal.returns
returns c scene limits s act can done = actor_unfinished scene limits s act can done
