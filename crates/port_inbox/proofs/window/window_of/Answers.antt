use Rattle.std.proofs.Common.{arith}
use Rattle.port_inbox.proofs.Windows.{window_from, window_within}
use Rattle.port_inbox.proofs.window.window_of.Goals as goal

pub returns-clause-from : goal.returns-clause-from
returns-clause-from c time short =
    rw c.saturating_sub.ensures (window_from time c.args.latency c.args.start c.args.tick c.args.step c.saturating_add-clock.result c.requires.tick c.requires.latency short (omega arith))

pub returns-clause-within : goal.returns-clause-within
returns-clause-within c time short =
    rw (c.saturating_sub.ensures, c.saturating_sub-2.ensures)
    (window_within time c.args.latency c.args.start c.args.tick c.args.step c.saturating_add-clock.result c.saturating_add-next.result c.requires.tick c.requires.latency short (omega arith) (omega arith))
