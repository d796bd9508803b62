use Rattle.std.proofs.Common.{ap, Some, arith}
use Rattle.latency_graph.proofs.stated.stated_by.Goals as goal

pub returns-in-None-Some-clause-value : goal.returns-in-None-Some-clause-value
returns-in-None-Some-clause-value c = rw (c.in-None-Some.is-0, c.in-None-Some.is-1) (ap (λ m. Some m) (omega arith))

pub returns-in-Some-Some-clause-value : goal.returns-in-Some-Some-clause-value
returns-in-Some-Some-clause-value c =
    rw (c.in-Some-Some.is-0, c.in-Some-Some.is-1)
    (ap (λ m. Some m) (omega arith))
