use Rattle.config_text.proofs.BareLines.{spelled_same}
use Rattle.config_text.proofs.NoOptions.{no_option}
use Rattle.config_text.proofs.laws.bare_reading.Goals as goal

pub returns-clause-same : goal.returns-clause-same
returns-clause-same c = spelled_same

pub returns-clause-no_option : goal.returns-clause-no_option
returns-clause-no_option c = no_option
