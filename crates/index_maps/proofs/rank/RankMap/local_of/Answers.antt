use Rattle.std.proofs.Common.{arith}
use Rattle.index_maps.proofs.Ranges.{are_indices-range}
use Rattle.index_maps.proofs.rank.RankMap.local_of.Goals as goal

pub returns-in-Linear-clause-indices : goal.returns-in-Linear-clause-indices
returns-in-Linear-clause-indices c = rw c.in-Linear.is (are_indices-range c.in-Linear.span.base c.in-Linear.span.size (omega (arith, c.local_of.ensures.limit)))
