use Rattle.index_maps.proofs.Spans.{shared_told}
use Rattle.index_maps.proofs.map.PortMap.first_shared.Goals as goal

pub returns : goal.returns
returns c =
    shared_told c.least_shared.result c.args.self.now c.as_slice.result.now (rw c.as_slice.ensures.value c.in_ok-spans.ensures.counts)
    c.least_shared.ensures.none c.least_shared.ensures.shared c.least_shared.ensures.least
