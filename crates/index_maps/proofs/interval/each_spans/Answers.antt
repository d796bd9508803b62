use Rattle.std.proofs.Common.{◌∙◌}
use Rattle.std.proofs.lemmas.List.{take_all}
use Rattle.index_maps.proofs.Counts.{counts_more}
use Rattle.index_maps.proofs.interval.each_spans.Goals as goal

pub loop-map-preserved : goal.loop-map-preserved
loop-map-preserved c = record {
  some = c.in_ok-push_spans.ensures.some;
  counts = λ g. c.in_ok-push_spans.ensures.counts g ∙ rw (c.loop-map.invariant.counts g, c.map-item.is) (counts_more g c.args.maps.now c.loop-map.map-index _ c.loop-map-test.true);
}

pub returns-clause-counts : goal.returns-clause-counts
returns-clause-counts c = λ g. rw (take_all c.loop-map.map-index c.args.maps.now c.loop-map-test.false) at (c.loop-map.invariant.counts g)
