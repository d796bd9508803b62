use Rattle.std.proofs.Common.{◌∙◌}
use Rattle.index_maps.proofs.Counts.{maps_index_each, maps_index_split, maps_index_no_rank}
use Rattle.index_maps.proofs.map.PortMap.maps.Goals as goal

pub returns-in-Each : goal.returns-in-Each
returns-in-Each c = rw c.in-Each.is (rw c.as_slice.ensures at c.some_holds.ensures ∙ maps_index_each c.in-Each.maps c.args.global)

pub returns-then-ranks-gt0 : goal.returns-then-ranks-gt0
returns-then-ranks-gt0 c = rw c.in-Split.is (c.holds.ensures ∙ maps_index_split c.in-Split.span c.in-Split.ranks c.args.global c.if-ranks-gt0.true)

pub returns-else-ranks-gt0 : goal.returns-else-ranks-gt0
returns-else-ranks-gt0 c = rw c.in-Split.is (maps_index_no_rank c.in-Split.span c.in-Split.ranks c.args.global c.if-ranks-gt0.false)
