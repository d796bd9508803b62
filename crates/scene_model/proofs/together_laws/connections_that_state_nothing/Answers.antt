use Rattle.scene_model.proofs.Unstated.{delay-is, latency-is, stated-is}
use Rattle.scene_model.proofs.together_laws.connections_that_state_nothing.Goals as goal

pub returns : goal.returns
returns c = record {
  latencies = λ scene c is link. latency-is scene is c link;
  delays = λ scene c is link. delay-is scene is c link;
  stated = λ scene c is link. stated-is scene is c link;
}
