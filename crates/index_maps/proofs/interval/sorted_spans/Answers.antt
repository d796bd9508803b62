use Rattle.index_maps.specs.Intervals.{ranks_mapping}
use Rattle.index_maps.proofs.Spans.{some_sorted, counts_sorted}
use Rattle.index_maps.proofs.interval.sorted_spans.Goals as goal

pub returns-clause-some : goal.returns-clause-some
returns-clause-some c = some_sorted c.in_order.result c.in_ok-all_spans.field-0.items c.in_ok-all_spans.ensures.some c.in_order.ensures.same

pub returns-clause-counts : goal.returns-clause-counts
returns-clause-counts c = counts_sorted c.in_order.result c.in_ok-all_spans.field-0.items (ranks_mapping c.args.map.now) c.in_ok-all_spans.ensures.counts c.in_order.ensures.same
