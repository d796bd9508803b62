use Rattle.config_text.proofs.SpelledLaws.{spelled_lawful}
use Rattle.music_cli.proofs.GivenAnswers.{text_no_memory}
use Rattle.music_cli.proofs.answering.answer_text.Goals as goal

pub answer_config-requires : goal.answer_config-requires
answer_config-requires g c =
    spelled_lawful c.args.bytes.items c.in-Ok.config (rw c.deref.ensures.value at c.in-Ok.ensures.spelled)

pub returns : goal.returns
returns g c = text_no_memory _ _ _ _
