use Rattle.std.proofs.Common.{refl, rules, FitsSigned}
use Rattle.std.proofs.lemmas.Int.{to_z-of_z}
use mir.Syntax.{w64, w128}
use Rattle.scene_model.specs.Clocks.{steps, tick}
use Rattle.app_turn.specs.Paces.{pace_of}
use Rattle.app_turn.proofs.needs.pace_of.Goals as goal

pub returns : goal.returns
unfolding pace_of steps tick
returns c =
    let wide : FitsSigned w128 c.allowance_of-allowance.result = search rules in
    let short : FitsSigned w64 c.allowance_of-allowance.result = search rules in
    rw (
      to_z-of_z w128 c.allowance_of-allowance.result wide,
      to_z-of_z w64 c.allowance_of-allowance.result short,
      c.allowance_of-allowance.ensures.value,
      c.steps.ensures,
      c.sender_of-sender.ensures,
      c.receiver_of-receiver.ensures,
    ) refl
