use Rattle.index_maps.proofs.Repeats.{IsSeenTo}
use Rattle.index_maps.proofs.permuting.repeat_by_marks.Given as goal

abbrev pub invariant-loop-place : goal.invariant-loop-place
invariant-loop-place l = IsSeenTo l.list l.place l.seen.items
