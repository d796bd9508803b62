use Rattle.music_cli.proofs.GivenAnswers.{config_no_memory, given_described, given_refused}
use Rattle.music_cli.proofs.answering.answer_config.Goals as goal

pub refuse-requires : goal.refuse-requires
refuse-requires g c = c.in-Err.ensures.has_text c.in_default.not-Memory

pub returns-in-Memory : goal.returns-in-Memory
returns-in-Memory g c = config_no_memory _ _ _ _ c.requires

pub returns-in-Ok : goal.returns-in-Ok
returns-in-Ok g c =
    given_described c.args.command c.args.config.now c.in-Ok.ready.scene _ _ c.in-Ok.ensures.scene c.in-Ok.ensures.sound.accepted c.answer_scene.ensures

pub returns-in_default : goal.returns-in_default
returns-in_default g c = given_refused c.args.command c.args.config.now _ _ _ c.in-Err.ensures.fault c.in_default.not-Memory c.refuse.ensures
