use Rattle.std.proofs.Common.{rules, arith, FitsSigned}
use Rattle.std.proofs.lemmas.Int.{ints, to_z-of_z}
use mir.Syntax.{w128}
use Rattle.scene_model.specs.Waits.{rounded}
use Rattle.scene_model.proofs.Bounds.{timed_at}
use Rattle.scene_model.proofs.WaitBounds.{IsRounded, rounded_at}
use Rattle.latency_graph.proofs.rounded.rounded_allowance.Goals as goal

pub returns-clause-value : goal.returns-clause-value
returns-clause-value c =
    let fits : FitsSigned w128 c.floor_to.result = search rules in
    let near : FitsSigned w128 c.allowance_of-allowance.result = search rules in
    rw (to_z-of_z w128 c.floor_to.result fits, c.floor_to.ensures.value, to_z-of_z w128 c.allowance_of-allowance.result near, c.common_divisor-common_divisor.ensures.value, c.allowance_of-allowance.ensures.value)

pub returns-clause-near : goal.returns-clause-near
returns-clause-near c =
    let near : IsRounded (rounded c.args.scene.now c.args.link) = rounded_at c.args.scene.now c.args.link (timed_at c.args.scene.now c.args.link c.requires.scene c.requires.link) in
    rw (returns-clause-value c) (omega (arith, ints, near.low, near.high))
