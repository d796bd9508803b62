use Rattle.music_cli.specs.Clauses.{answered}
use Rattle.music_cli.proofs.GivenAnswers.{given_to_words}
use Rattle.music_cli.proofs.top.follow.Goals as goal

pub returns-in-Ok-clause-ended : goal.returns-in-Ok-clause-ended
returns-in-Ok-clause-ended g c words is takes =
    answered takes c.in-Ok.bytes.items
    (record { gave = c.in-Ok.ensures.read; size = c.in-Ok.ensures.size; whole = c.in-Ok.ensures.whole; unfailing = c.in-Ok.ensures.stays })
    (given_to_words c.args.command words c.in-Ok.bytes.items _ _ is takes c.answer_text.ensures)
