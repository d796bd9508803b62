use Rattle.config_text.proofs.Canonical.{canon_again}
use Rattle.config_text.proofs.laws.canonical_reading.Goals as goal

pub returns : goal.returns
returns c = canon_again
