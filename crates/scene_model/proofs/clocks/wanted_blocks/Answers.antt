use Rattle.std.proofs.Common.{◌≡◌, ◌≤◌, ◌∙◌, ap, sym, suc, rules, arith, FitsSigned}
use Rattle.std.proofs.lemmas.Int.{to_z-of_z}
use mir.Syntax.{w128}
use Rattle.music_base.specs.Clocks.{steps_until}
use Rattle.scene_model.specs.Clocks.{span, steps, tick}
use Rattle.scene_model.specs.Scenes.{receiver, sender}
use Rattle.scene_model.specs.declared.scene.AppDecl.{AppDecl}
use Rattle.scene_model.proofs.Bounds.{IsPaced, timed_at}
use Rattle.scene_model.proofs.WantedBlocks.{wanted_blocks-last, wanted_blocks-none}
use Rattle.scene_model.proofs.clocks.wanted_blocks.Goals as goal

pub wanted-requires-clause-sent : goal.wanted-requires-clause-sent
unfolding steps tick steps_until
wanted-requires-clause-sent c =
    let paced : IsPaced c.args.scene.now (sender c.args.scene.now c.args.link) = (timed_at c.args.scene.now c.args.link c.requires.scene c.requires.link).sends in
    rw (c.steps-sent.ensures, c.sender_of-sender.ensures) paced.steps_to

pub wanted-requires-clause-step : goal.wanted-requires-clause-step
unfolding steps tick steps_until
wanted-requires-clause-step c =
    let paced : IsPaced c.args.scene.now (receiver c.args.scene.now c.args.link) = (timed_at c.args.scene.now c.args.link c.requires.scene c.requires.link).receives in
    let few : c.steps.result ≤ 1_000_000 = rw (c.steps.ensures, c.receiver_of-receiver.ensures) paced.steps_to in
    omega (arith, few, c.in-Some.ensures)

pub returns-in-None : goal.returns-in-None
unfolding steps tick steps_until
returns-in-None c =
    let none : steps c.args.scene.now (receiver c.args.scene.now c.args.link) ≡ 0 =
    sym (ap (λ (app : AppDecl). steps_until (span app) app.tick) c.receiver_of-receiver.ensures) ∙ (sym c.steps.ensures ∙ omega (arith, c.in-None.ensures)) in
    wanted_blocks-none c.args.scene.now c.args.link none

pub returns-in-Some : goal.returns-in-Some
unfolding steps tick steps_until
returns-in-Some c =
    let some : steps c.args.scene.now (receiver c.args.scene.now c.args.link) ≡ suc c.in-Some.last =
    sym (ap (λ (app : AppDecl). steps_until (span app) app.tick) c.receiver_of-receiver.ensures) ∙ (sym c.steps.ensures ∙ omega (arith, c.in-Some.ensures)) in
    let last = wanted_blocks-last c.args.scene.now c.args.link c.in-Some.last some in
    let fits : FitsSigned w128 c.allowance_of-allowance.result = search rules in
    rw (c.wanted.ensures.count, to_z-of_z w128 c.allowance_of-allowance.result fits, c.allowance_of-allowance.ensures.value, c.steps-sent.ensures, c.sender_of-sender.ensures, c.receiver_of-receiver.ensures) last
