use Rattle.port_inbox.proofs.Staying.{holds_admitted, holds_delivered, holds_later, holds_reserved}
use Rattle.port_inbox.proofs.laws.inboxes_hold.Goals as goal

pub returns : goal.returns
returns c = record {
  later = holds_later;
  reserved = holds_reserved;
  admitted = λ scene b p link j table inbox block lt e is lined holds. holds_admitted scene b p link j table inbox block lt e is lined.numbered holds;
  delivered = holds_delivered;
}
