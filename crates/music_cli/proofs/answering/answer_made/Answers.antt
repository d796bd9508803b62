use Rattle.music_cli.proofs.GivenAnswers.{given_made, made_no_memory}
use Rattle.music_cli.proofs.LiveScenes.{made_live}
use Rattle.music_cli.proofs.answering.answer_made.Goals as goal

pub returns-in-Ok-clause-given : goal.returns-in-Ok-clause-given
returns-in-Ok-clause-given g c =
    given_made c.args.number c.args.workers c.in-Ok.ready.scene _ _ c.in-Ok.ensures.scene c.in-Ok.ensures.sound.accepted c.answer_scene.ensures

pub returns-in-Ok-clause-live : goal.returns-in-Ok-clause-live
returns-in-Ok-clause-live g c done =
    made_live c.args.number c.in-Ok.ready.scene c.in-Ok.ensures.scene c.in-Ok.ensures.sound.faultless c.in-Ok.ensures.sound.accepted

pub returns-in-Err-clause-given : goal.returns-in-Err-clause-given
returns-in-Err-clause-given g c = made_no_memory c.args.number c.args.workers _ _
