use Rattle.std.proofs.Common.{◌≡◌, ◌∷◌}
use Rattle.index_maps.proofs.Joining.{AreInOrder, joined_is, are_in_order, are_apart-join, holds-join, join_extends, join_starts}
use Rattle.index_maps.proofs.interval.joined.Goals.{then-span-growing, else-span-growing+in_ok-push}
use Rattle.index_maps.proofs.interval.joined.Goals as goal

pub returns-clause-apart : goal.returns-clause-apart
returns-clause-apart c =
    let is = joined_is c.loop-span.done c.loop-span.growing c.loop-span.span-index c.in-Some.others.now _ c.loop-span-test.false c.loop-span.invariant in
    let all : c.args.spans.now ≡ c.in-Some.first.now ∷ c.in-Some.others.now = c.in-Some.ensures.cases.0 in
    let ordered : AreInOrder 0 (c.in-Some.first.now ∷ c.in-Some.others.now) = rw all at (are_in_order c.args.spans.now c.requires.some c.requires.ascend) in
    rw (c.in_ok-push-2.ensures.ok, is) (are_apart-join c.in-Some.first.now c.in-Some.others.now ordered.1 ordered.2)

pub returns-clause-same : goal.returns-clause-same
returns-clause-same c = λ g.
    let is = joined_is c.loop-span.done c.loop-span.growing c.loop-span.span-index c.in-Some.others.now _ c.loop-span-test.false c.loop-span.invariant in
    let all : c.args.spans.now ≡ c.in-Some.first.now ∷ c.in-Some.others.now = c.in-Some.ensures.cases.0 in
    let ordered : AreInOrder 0 (c.in-Some.first.now ∷ c.in-Some.others.now) = rw all at (are_in_order c.args.spans.now c.requires.some c.requires.ascend) in
    rw (c.in_ok-push-2.ensures.ok, is, all) (holds-join g c.in-Some.first.now c.in-Some.others.now ordered.2)

pub loop-span-preserved : goal.loop-span-preserved
loop-span-preserved c = elim c.if-span-growing.branch [
  | then-span-growing w ↦
      rw (w.done-is, w.growing-is, w.max.ensures)
      (join_extends c.loop-span.done c.loop-span.growing c.loop-span.span-index c.in-Some.others.now _ _ c.loop-span-test.true w.if-span-growing.true c.loop-span.invariant)
  | else-span-growing+in_ok-push w ↦
      rw (w.done-is, w.growing-is, w.in_ok-push.ensures.ok)
      (join_starts c.loop-span.done c.loop-span.growing c.loop-span.span-index c.in-Some.others.now _ _ c.loop-span-test.true w.if-span-growing.false c.loop-span.invariant)
]
