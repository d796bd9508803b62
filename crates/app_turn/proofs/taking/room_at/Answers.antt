use Rattle.std.proofs.Common.{ap}
use Rattle.port_inbox.specs.Inboxes.{Inbox, line_at}
use Rattle.app_turn.specs.declared.inbox.PortInbox.TheVariants.{Hears, Listens}
use Rattle.app_turn.proofs.taking.room_at.Goals as goal

pub returns-in-Hears-clause-same : goal.returns-in-Hears-clause-same
returns-in-Hears-clause-same c = ((line_at c.reserve.new.self c.args.place).spare, rw c.in-Hears.is (ap (λ (x : Inbox). Hears x) c.reserve.ensures.same))

pub returns-in-Listens-clause-same : goal.returns-in-Listens-clause-same
returns-in-Listens-clause-same c = ((line_at c.reserve-in-Listens.new.self c.args.place).spare, rw c.in-Listens.is (ap (λ (x : Inbox). Listens x) c.reserve-in-Listens.ensures.same))
