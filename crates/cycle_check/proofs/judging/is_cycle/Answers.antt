use mathlib.Core.Bool.{false≢true}
use Rattle.cycle_check.proofs.CycleTests.{closes_iff, no_cycle}
use Rattle.cycle_check.proofs.judging.is_cycle.Goals as goal

pub returns-in-Some : goal.returns-in-Some
returns-in-Some c = rw c.eq.ensures (closes_iff c.args.waits.now c.first-item.result.waiter c.in-Some.end c.in-len1-up.len_at_least c.in-Some.ensures.some)

pub returns-in-None : goal.returns-in-None
returns-in-None c = (λ no. absurd (false≢true no), λ closed. absurd (no_cycle c.args.waits.now c.first-item.result c.first-item.is c.in-None.ensures.none closed))
