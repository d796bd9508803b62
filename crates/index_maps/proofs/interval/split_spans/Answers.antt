use Rattle.std.proofs.Common.{◌∙◌, sym, arith}
use Rattle.index_maps.proofs.Counts.{ranks_mapping_split, ranks_mapping_no_rank}
use Rattle.index_maps.proofs.Spans.{count-span}
use Rattle.index_maps.proofs.interval.split_spans.Goals as goal

pub returns-then-ranks-eq0-clause-counts : goal.returns-then-ranks-eq0-clause-counts
returns-then-ranks-eq0-clause-counts c = λ g. rw (c.new-spans.ensures.items, c.if-ranks-eq0.true) (sym (ranks_mapping_no_rank c.args.span g))

pub returns-clause-counts : goal.returns-clause-counts
returns-clause-counts c = λ g. rw (c.in_ok-push_span.ensures, c.new-spans.ensures.items) (count-span g c.args.span ∙ sym (ranks_mapping_split c.args.span c.args.ranks g (omega arith)))
