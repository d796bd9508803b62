use Rattle.std.proofs.Common.{rules, FitsSigned}
use Rattle.std.proofs.lemmas.Int.{to_z-of_z}
use mir.Syntax.{w128}
use Rattle.scene_model.specs.Clocks.{tick}
use Rattle.scene_model.specs.Scenes.{receiver, sender}
use Rattle.scene_model.specs.Waits.{block_wait}
use Rattle.latency_graph.proofs.waiting.block_wait.Goals as goal

pub returns : goal.returns
unfolding block_wait receiver sender tick
returns c =
    let rounded_fits : FitsSigned w128 c.rounded_allowance.result = search rules in
    let burden_fits : FitsSigned w128 c.time_beyond.result = search rules in
    rw (
      to_z-of_z w128 c.rounded_allowance.result rounded_fits,
      to_z-of_z w128 c.time_beyond.result burden_fits,
      c.link-ends.ensures,
      c.rounded_allowance.ensures.value,
      c.time_beyond.ensures,
      c.receiver_of.ensures,
      c.common_divisor.ensures.value,
    )
