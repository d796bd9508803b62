use Rattle.std.proofs.Common.{refl, arith}
use Rattle.std.proofs.Math.Nat.{le-div_iff_mul-le}
use Rattle.music_base.specs.Clocks.{due_step}
use Rattle.music_base.proofs.clocks.due.Goals as goal

pub returns-clause-step : goal.returns-clause-step
unfolding due_step
returns-clause-step c = rw (c.time.view_is, c.latency.view_is, c.tick.view_is) refl

pub returns-clause-last : goal.returns-clause-last
returns-clause-last c step = rw (c.time.view_is, c.latency.view_is, c.tick.view_is) (le-div_iff_mul-le {k = c.args.tick} (omega arith))
