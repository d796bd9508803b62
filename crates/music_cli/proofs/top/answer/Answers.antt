use Rattle.std.proofs.Common.{refl, sym, subst, ◌∙◌}
use Rattle.std.specs.Prelude.{IfSome, Option}
use Rattle.command_words.specs.Commands.{IsWithinLimits}
use Rattle.command_words.specs.Words.{texts}
use Rattle.command_words.specs.declared.command.Command.{Command}
use Rattle.music_cli.specs.Clauses.{no_words}
use Rattle.music_cli.proofs.Endings.{reads_nothing}
use Rattle.music_cli.proofs.top.answer.Goals as goal

pub obey-requires : goal.obey-requires
obey-requires g c = subst (λ (found : Option Command). IfSome found IsWithinLimits) c.in-Some.is c.in-Ok.ensures.limits

pub returns-in-Some-clause-ended : goal.returns-in-Some-clause-ended
returns-in-Some-clause-ended g c = c.obey.ensures.ended (texts c.args.words.now) (sym c.in-Ok.ensures.command ∙ c.in-Some.is)

pub returns-in-None-clause-no_more : goal.returns-in-None-clause-no_more
returns-in-None-clause-no_more g c = reads_nothing _ _

pub returns-in_default-clause-ended : goal.returns-in_default-clause-ended
returns-in_default-clause-ended g c = no_words refl (refl, refl) (refl, refl)

pub returns-in_default-clause-no_more : goal.returns-in_default-clause-no_more
returns-in_default-clause-no_more g c = reads_nothing _ _
