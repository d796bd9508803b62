use Rattle.index_maps.proofs.Joining.{are_in_order}
use Rattle.index_maps.proofs.Sharing.{least-none, least-some, least_found, least_goes_on, least_at_end}
use Rattle.index_maps.proofs.interval.least_shared.Goals as goal

pub returns-then-span-reach-clause-shared : goal.returns-then-span-reach-clause-shared
returns-then-span-reach-clause-shared c =
    (least-some c.args.spans.now _ (are_in_order c.args.spans.now c.requires.some c.requires.ascend)
    (least_found c.args.spans.now c.loop-span.span-index c.loop-span.reach _ c.loop-span-test.true c.if-span-reach.true c.loop-span.invariant)).0

pub returns-then-span-reach-clause-least : goal.returns-then-span-reach-clause-least
returns-then-span-reach-clause-least c =
    (least-some c.args.spans.now _ (are_in_order c.args.spans.now c.requires.some c.requires.ascend)
    (least_found c.args.spans.now c.loop-span.span-index c.loop-span.reach _ c.loop-span-test.true c.if-span-reach.true c.loop-span.invariant)).1

pub returns-clause-none : goal.returns-clause-none
returns-clause-none c = λ _ g.
    least-none c.args.spans.now (are_in_order c.args.spans.now c.requires.some c.requires.ascend)
    (least_at_end c.args.spans.now c.loop-span.span-index c.loop-span.reach c.loop-span-test.false c.loop-span.invariant) g

pub loop-span-preserved : goal.loop-span-preserved
loop-span-preserved c = least_goes_on c.args.spans.now c.loop-span.span-index c.loop-span.reach _ c.loop-span-test.true c.if-span-reach.false c.loop-span.invariant
