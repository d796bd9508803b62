use Rattle.config_text.proofs.CommentRule.{comment_front, comment_begins, comment_first}
use Rattle.config_text.proofs.laws.comment_reading.Goals as goal

pub returns-clause-front : goal.returns-clause-front
returns-clause-front c = comment_front

pub returns-clause-begins : goal.returns-clause-begins
returns-clause-begins c = comment_begins

pub returns-clause-first : goal.returns-clause-first
returns-clause-first c = comment_first
