use Rattle.index_maps.proofs.Repeats.{IsRestAt}
use Rattle.index_maps.proofs.permuting.repeat_by_pairs.Given as goal

abbrev pub invariant-loop-before : goal.invariant-loop-before
invariant-loop-before l = IsRestAt l.list l.before
