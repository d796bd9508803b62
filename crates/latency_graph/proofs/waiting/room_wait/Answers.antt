use Rattle.std.proofs.Common.{rules, FitsSigned}
use Rattle.std.proofs.lemmas.Int.{to_z-of_z}
use mir.Syntax.{w128}
use Rattle.scene_model.specs.Clocks.{tick}
use Rattle.scene_model.specs.Scenes.{receiver, sender}
use Rattle.scene_model.specs.Waits.{room_wait}
use Rattle.latency_graph.proofs.waiting.room_wait.Goals as goal

pub returns : goal.returns
unfolding room_wait receiver sender tick
returns c =
    let allowance_fits : FitsSigned w128 c.room_allowance.result = search rules in
    let rounded_fits : FitsSigned w128 c.rounded_allowance-rounded.result = search rules in
    rw (
      to_z-of_z w128 c.room_allowance.result allowance_fits,
      c.link-ends.ensures,
      c.room_allowance.ensures,
      to_z-of_z w128 c.rounded_allowance-rounded.result rounded_fits,
      c.rounded_allowance-rounded.ensures.value,
      c.sender_of-sender.ensures,
      c.receiver_of-receiver.ensures,
    )
