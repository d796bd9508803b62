use Rattle.std.proofs.Common.{sym}
use Rattle.std.specs.List.{count_by}
use Rattle.index_maps.specs.Intervals.{ranks_mapping}
use Rattle.index_maps.specs.Maps.{globals}
use Rattle.index_maps.proofs.Counts.{has, ranks_mapping_each}
use Rattle.index_maps.proofs.Spans.{counts_same}
use Rattle.index_maps.proofs.interval.all_spans.Goals as goal

pub returns-in-Each-clause-counts : goal.returns-in-Each-clause-counts
returns-in-Each-clause-counts c =
    counts_same c.each_spans.result (λ g. count_by (λ map. has g (globals map)) c.as_slice.result.now) (ranks_mapping c.args.map.now)
    (λ g. rw (c.as_slice.ensures, c.in-Each.is) (sym (ranks_mapping_each c.in-Each.maps g))) c.each_spans.ensures.counts
