use Rattle.std.proofs.Common.{refl}
use Rattle.music_cli.specs.PlanTexts.{plan_text}
use Rattle.command_words.specs.declared.command.Command.TheVariants.{Plan}
use Rattle.music_cli.proofs.GivenAnswers.{done_no_memory, done_said}
use Rattle.music_cli.proofs.planning.plan.Goals as goal

pub plan_text-requires : goal.plan_text-requires
plan_text-requires g c = rw (c.scene.ensures.scene, c.plan.ensures.plan) c.scene.ensures.sound

pub returns-in-Ok : goal.returns-in-Ok
returns-in-Ok g c =
    let ready = c.args.ready.now in
    done_said Plan ready.scene (plan_text ready.scene ready.plan.limits.items) (ready.plan.limits.items, c.scene.ensures.sound.limits, refl) _ _
    (rw (c.deref.ensures.value, c.in-Ok.ensures, c.scene.ensures.scene, c.plan.ensures.plan) at c.say.ensures)

pub returns-in-Err : goal.returns-in-Err
returns-in-Err g c =
    let ready = c.args.ready.now in
    done_no_memory Plan ready.scene (plan_text ready.scene ready.plan.limits.items) _ _ (ready.plan.limits.items, c.scene.ensures.sound.limits, refl)
