use Rattle.std.proofs.Common.{refl}
use Rattle.port_inbox.specs.Samples.{read, sample_at}
use Rattle.port_inbox.proofs.cont_laws.worked_reads.Goals as goal

pub returns : goal.returns
unfolding read sample_at
returns c = record { held = refl; before = refl; behind = refl; between = refl }
