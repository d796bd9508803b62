use Rattle.std.specs.Prelude.{map}
use Rattle.index_maps.specs.Intervals.{mapped_once, single, span_of}
use Rattle.index_maps.proofs.Spans.{count-list, count-span, counts_pushed, some_pushed, some-singles}
use Rattle.index_maps.proofs.interval.push_spans.Goals as goal

pub returns-in-Linear-clause-counts : goal.returns-in-Linear-clause-counts
returns-in-Linear-clause-counts c =
    counts_pushed c.push_span.result c.args.spans.now.items c.push_span.new.spans.items (span_of c.in-Linear.span) (mapped_once c.args.map.now)
    (λ g. rw c.in-Linear.is (count-span g c.in-Linear.span)) c.push_span.ensures

pub returns-in-Permutation-clause-some : goal.returns-in-Permutation-clause-some
returns-in-Permutation-clause-some c =
    some_pushed c.push_indices.result c.args.spans.now.items c.push_indices.new.spans.items (map single c.as_slice.result.now) c.requires
    (some-singles c.as_slice.result.now) c.push_indices.ensures

pub returns-in-Permutation-clause-counts : goal.returns-in-Permutation-clause-counts
returns-in-Permutation-clause-counts c =
    counts_pushed c.push_indices.result c.args.spans.now.items c.push_indices.new.spans.items (map single c.as_slice.result.now) (mapped_once c.args.map.now)
    (λ g. rw (c.in-Permutation.is, c.as_slice.ensures.indices) (count-list g c.in-Permutation.list c.as_slice.ensures.differ)) c.push_indices.ensures
