use Rattle.std.proofs.Common.{refl}
use Rattle.port_inbox.proofs.Sampling.{no_samples, read_is, samples_admitted}
use Rattle.port_inbox.proofs.cont_laws.samples_hold.Goals as goal

pub returns : goal.returns
returns c = record {
  made = λ scene l table delay interpolate send_tick receive_tick send_start receive_start. no_samples scene l table _ refl refl;
  admitted = λ scene l table s block number there is holds. samples_admitted scene l table s block number there is holds;
  values = λ scene b p l s table step g fed. read_is scene b p l s table step fed g;
}
