use Rattle.std.proofs.Common.{sym, rules, FitsSigned}
use Rattle.std.proofs.lemmas.Int.{to_z-of_z}
use mir.Syntax.{w128}
use Rattle.music_base.specs.Clocks.{steps_until}
use Rattle.scene_model.specs.Clocks.{steps, tick}
use Rattle.scene_model.specs.Scenes.{sender}
use Rattle.scene_model.proofs.Bounds.{IsPaced, timed_at}
use Rattle.scene_model.proofs.WantedBlocks.{wanted_is}
use Rattle.act_orders.proofs.opening.wanted_by.Goals as goal

pub wanted-requires-clause-sent : goal.wanted-requires-clause-sent
unfolding steps tick steps_until
wanted-requires-clause-sent c =
    let paced : IsPaced c.args.scene.now (sender c.args.scene.now c.args.link) = (timed_at c.args.scene.now c.args.link c.requires.scene c.requires.link).sends in
    rw (c.steps-sent.ensures, c.sender_of-sender.ensures) paced.steps_to

pub returns : goal.returns
unfolding steps tick steps_until
returns c =
    let fits : FitsSigned w128 c.allowance_of-allowance.result = search rules in
    rw (c.wanted.ensures.count, to_z-of_z w128 c.allowance_of-allowance.result fits, c.allowance_of-allowance.ensures.value, c.steps-sent.ensures, c.sender_of-sender.ensures, c.receiver_of-receiver.ensures)
    (sym (wanted_is c.args.scene.now c.args.link c.args.step))
