use Rattle.port_inbox.proofs.Delivering.{heard_is}
use Rattle.port_inbox.proofs.Repeating.{delivered_again}
use Rattle.port_inbox.proofs.laws.inboxes_answer.Goals as goal

pub returns : goal.returns
returns c = record { heard = heard_is; again = delivered_again }
