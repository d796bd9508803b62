use Rattle.scene_model.specs.Clocks.{tick}
use Rattle.scene_model.proofs.Bounds.{timed_at}
use Rattle.scene_model.proofs.WaitBounds.{common_divisor_at}
use Rattle.latency_graph.proofs.rounded.common_divisor.Goals as goal

pub returns-clause-value : goal.returns-clause-value
unfolding tick
returns-clause-value c = rw (c.gcd.ensures.value, c.sender_of.ensures, c.receiver_of.ensures)

pub returns-clause-within : goal.returns-clause-within
returns-clause-within c =
    rw (returns-clause-value c) (common_divisor_at c.args.scene.now c.args.link (timed_at c.args.scene.now c.args.link c.requires.scene c.requires.link)).within
