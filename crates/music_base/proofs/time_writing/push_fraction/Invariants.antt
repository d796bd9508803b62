use Rattle.music_base.proofs.Fraction.{IsLeft}
use Rattle.music_base.proofs.time_writing.push_fraction.Given as goal

abbrev pub invariant-loop-number : goal.invariant-loop-number
invariant-loop-number l = IsLeft l.nanos l.count l.number

abbrev pub decreases-loop-number : goal.decreases-loop-number
decreases-loop-number l = l.count
