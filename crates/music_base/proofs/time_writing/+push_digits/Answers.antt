use Rattle.std.proofs.Common.{arith}
use Rattle.music_base.proofs.Fraction.{one_digit}
use Rattle.music_base.proofs.time_writing.+push_digits.Goals as goal

pub returns : goal.returns
returns t c = rw c.in_ok-push.ensures.items (one_digit c.args.count c.args.number c.args.out.now.items _ (omega arith) c.in_ok-push_digits.ensures)
