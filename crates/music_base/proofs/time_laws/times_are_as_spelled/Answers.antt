use Rattle.music_base.proofs.TimeLaws.{spelled, valued, faulted, faulty}
use Rattle.music_base.proofs.time_laws.times_are_as_spelled.Goals as goal

pub returns-clause-times : goal.returns-clause-times
returns-clause-times c = λ bytes n. (spelled bytes n, valued bytes n)

pub returns-clause-faults : goal.returns-clause-faults
returns-clause-faults c = λ bytes fault. (faulty bytes fault, faulted bytes fault)
