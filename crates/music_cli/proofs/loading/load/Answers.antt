use Rattle.std.proofs.Common.{refl}
use Rattle.music_cli.specs.Answers.{load_text}
use Rattle.command_words.specs.declared.command.Command.TheVariants.{Load}
use Rattle.music_cli.proofs.GivenAnswers.{done_no_memory, done_said}
use Rattle.music_cli.proofs.loading.load.Goals as goal

pub load_text-requires-clause-faultless : goal.load_text-requires-clause-faultless
load_text-requires-clause-faultless g c = rw c.scene.ensures.scene c.scene.ensures.sound.faultless

pub load_text-requires-clause-fits : goal.load_text-requires-clause-fits
load_text-requires-clause-fits g c = rw (c.scene.ensures.scene, c.plan.ensures.plan) c.scene.ensures.sound.fits

pub returns-in-Ok : goal.returns-in-Ok
returns-in-Ok g c =
    let scene = c.args.ready.now.scene in
    done_said (Load c.args.number c.args.workers) scene (load_text c.args.number scene) refl _ _ (rw (c.deref.ensures.value, c.in-Ok.ensures, c.scene.ensures.scene) at c.say.ensures)

pub returns-in-Err : goal.returns-in-Err
returns-in-Err g c = done_no_memory (Load c.args.number c.args.workers) c.args.ready.now.scene (load_text c.args.number c.args.ready.now.scene) _ _ refl
