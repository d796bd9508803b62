use Rattle.std.proofs.Common.{ap, ◌∙◌}
use Rattle.port_inbox.specs.Words.{words_delivered}
use Rattle.port_inbox.proofs.Delivering.{told_is}
use Rattle.port_inbox.proofs.message_inbox.MessageInbox.deliver.Goals as goal

pub returns-clause-answer : goal.returns-clause-answer
unfolding words_delivered
returns-clause-answer c = c.in_ok-words.ensures ∙ ap (words_delivered c.args.step) c.self.view_is

pub returns-clause-heard : goal.returns-clause-heard
returns-clause-heard c scene b p table told = returns-clause-answer c ∙ told_is scene b p table c.args.step c.args.self.now told
