use Rattle.std.proofs.Common.{refl}
use Rattle.scene_model.specs.Clocks.{tick}
use Rattle.scene_model.specs.Scenes.{receiver, sender}
use Rattle.scene_model.specs.Waits.{stated}
use Rattle.latency_graph.proofs.laws.worked_stated_limits_hold.Goals as goal

pub returns : goal.returns
unfolding sender receiver tick stated
returns c = record { none = refl; of_output = refl; of_input = refl; at_least_one = refl; less_of_output = refl; less_of_input = refl; of_connection = refl; before_the_ends = refl; capped = refl }
