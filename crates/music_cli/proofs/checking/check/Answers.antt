use Rattle.std.proofs.Common.{refl}
use Rattle.music_cli.specs.Answers.{ok_text}
use Rattle.command_words.specs.declared.command.Command.TheVariants.{Check}
use Rattle.music_cli.proofs.GivenAnswers.{done_no_memory, done_said}
use Rattle.music_cli.proofs.checking.check.Goals as goal

pub returns-in-Ok : goal.returns-in-Ok
returns-in-Ok g c =
    let scene = c.args.ready.now.scene in
    done_said Check scene (ok_text scene) refl _ _ (rw (c.deref.ensures.value, c.in-Ok.ensures, c.scene.ensures.scene) at c.say.ensures)

pub returns-in-Err : goal.returns-in-Err
returns-in-Err g c = done_no_memory Check c.args.ready.now.scene (ok_text c.args.ready.now.scene) _ _ refl
