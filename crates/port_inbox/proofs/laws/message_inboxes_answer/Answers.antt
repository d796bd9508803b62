use Rattle.port_inbox.proofs.Delivering.{told_is}
use Rattle.port_inbox.proofs.Repeating.{words_again}
use Rattle.port_inbox.proofs.laws.message_inboxes_answer.Goals as goal

pub returns : goal.returns
returns c = record { heard = told_is; again = words_again }
