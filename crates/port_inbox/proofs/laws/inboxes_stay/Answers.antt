use Rattle.port_inbox.proofs.Staying.{lines_admitted, lines_delivered, lines_reserved}
use Rattle.port_inbox.proofs.laws.inboxes_stay.Goals as goal

pub returns : goal.returns
returns c = record { reserved = lines_reserved; admitted = lines_admitted; delivered = lines_delivered }
