use Rattle.std.proofs.Common.{arith}
use Rattle.music_base.proofs.Fraction.{one_less, left_over}
use Rattle.music_base.proofs.time_writing.push_fraction.Goals as goal

pub loop-number-preserved : goal.loop-number-preserved
loop-number-preserved c = (one_less c.args.nanos c.loop-number.count c.loop-number.number c.loop-number-test.true c.loop-number.invariant).1

pub overflow_sub-count : goal.overflow_sub-count
overflow_sub-count c = let h = (one_less c.args.nanos c.loop-number.count c.loop-number.number c.loop-number-test.true c.loop-number.invariant).0 in omega (arith, h)

pub returns : goal.returns
returns c = rw (← left_over c.args.nanos c.loop-number.count c.loop-number.number c.loop-number-test.false c.loop-number.invariant) c.push_digits.ensures
