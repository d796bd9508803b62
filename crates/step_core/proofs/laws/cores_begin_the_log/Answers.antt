use Rattle.step_core.proofs.Releases.{begins_opened, did_begins, did_same, none_opened}
use Rattle.step_core.proofs.laws.cores_begin_the_log.Goals as goal

pub returns-clause-opened : goal.returns-clause-opened
returns-clause-opened c = none_opened

pub returns-clause-begins : goal.returns-clause-begins
returns-clause-begins c = begins_opened

pub returns-clause-did : goal.returns-clause-did
returns-clause-did c = did_same

pub returns-clause-begins_still : goal.returns-clause-begins_still
returns-clause-begins_still c = did_begins
