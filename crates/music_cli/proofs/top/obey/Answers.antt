use Rattle.std.proofs.Common.{ap, refl, subst, Some, ◌∙◌}
use Rattle.command_words.specs.Commands.{IsWithinLimits}
use Rattle.music_cli.specs.Clauses.{loaded}
use Rattle.music_cli.proofs.Input.{words_take_input, takes_unless_load}
use Rattle.music_cli.proofs.Endings.{reads_nothing}
use Rattle.music_cli.proofs.top.obey.Goals as goal

pub answer_made-requires : goal.answer_made-requires
answer_made-requires g c = (subst IsWithinLimits c.in-Load.is c.requires).0

pub returns-in-Load-clause-ended : goal.returns-in-Load-clause-ended
returns-in-Load-clause-ended g c words is =
    loaded c.in-Load.number c.in-Load.workers (is ∙ ap (λ x. Some x) c.in-Load.is) (refl, refl) c.answer_made.ensures.given c.answer_made.ensures.live

pub returns-in-Load-clause-no_more : goal.returns-in-Load-clause-no_more
returns-in-Load-clause-no_more g c = reads_nothing _ _

pub returns-in_default-clause-ended : goal.returns-in_default-clause-ended
returns-in_default-clause-ended g c words is =
    c.follow.ensures.ended words is (words_take_input words c.args.command is (takes_unless_load c.args.command c.in_default.not-Load))
