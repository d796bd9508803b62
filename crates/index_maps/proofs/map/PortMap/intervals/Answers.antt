use Rattle.index_maps.proofs.Spans.{indices_joined}
use Rattle.index_maps.proofs.map.PortMap.intervals.Goals as goal

pub returns-clause-indices : goal.returns-clause-indices
returns-clause-indices c =
    indices_joined c.joined.result c.args.self.now c.as_slice.result.now (rw c.as_slice.ensures.value c.in_ok-spans.ensures.counts)
    c.joined.ensures.apart c.joined.ensures.same
