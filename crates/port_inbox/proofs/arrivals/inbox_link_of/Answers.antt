use Rattle.std.proofs.Common.{refl}
use Rattle.scene_model.specs.Scenes.{sender}
use Rattle.port_inbox.proofs.arrivals.inbox_link_of.Goals as goal

pub returns-clause-link : goal.returns-clause-link
unfolding sender
returns-clause-link c = record { app = rw c.link-ends.ensures refl; port = rw c.link-ends.ensures refl; late = c.latency_of-latency.ensures.value }
