use Rattle.scene_model.specs.Clocks.{tick}
use Rattle.latency_graph.proofs.stated.in_sender_ticks.Goals as goal

pub returns : goal.returns
unfolding tick
returns c = rw (c.in_ticks.ensures, c.sender_of.ensures, c.receiver_of.ensures)
