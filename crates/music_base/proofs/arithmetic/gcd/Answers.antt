use Rattle.std.proofs.Math.Nat.{pos_of_dvd_of_pos}
use Rattle.std.proofs.Common.{◌<◌, arith}
use Rattle.music_base.proofs.Counting.{gcd_is}
use Rattle.music_base.proofs.arithmetic.gcd.Goals as goal

pub returns-clause-greatest : goal.returns-clause-greatest
returns-clause-greatest c = rw (← c.a.view_is, ← c.b.view_is) c.common_divisor.ensures

pub returns-clause-value : goal.returns-clause-value
returns-clause-value c = gcd_is c.args.a c.args.b c.common_divisor.result (returns-clause-greatest c)

pub returns-clause-some : goal.returns-clause-some
returns-clause-some c = let some : 0 < c.common_divisor.result = pos_of_dvd_of_pos (returns-clause-greatest c).0 (omega arith) in omega (arith, some)
