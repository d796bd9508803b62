use Rattle.std.proofs.Common.{refl, rules, arith, FitsSigned, ◌+ℤ◌}
use Rattle.std.proofs.lemmas.Int.{ints, to_z-of_z}
use mir.Syntax.{w128}
use Rattle.scene_model.specs.Clocks.{allowance, start, tick}
use Rattle.scene_model.proofs.Bounds.{IsAllowance, allowance_at, timed_at}
use Rattle.scene_model.proofs.clocks.allowance_of.Goals as goal

pub returns-clause-value : goal.returns-clause-value
unfolding allowance start tick
returns-clause-value c =
    let later : FitsSigned w128 c.later_start.result = search rules in
    let together : FitsSigned w128 c.allowance_by-together.result = search rules in
    let sum : FitsSigned w128 (c.later_start.result +ℤ c.allowance_by-together.result) = search rules in
    rw (
      to_z-of_z w128 c.later_start.result later,
      to_z-of_z w128 c.allowance_by-together.result together,
      to_z-of_z w128 (c.later_start.result +ℤ c.allowance_by-together.result) sum,
      c.later_start.ensures.value,
      c.allowance_by-together.ensures.value,
      c.sender_of-sender.ensures,
      c.receiver_of-receiver.ensures,
      c.input_of.ensures,
      c.latency_of-latency.ensures.value,
      c.delay_of-delay.ensures.value,
    ) refl

pub returns-clause-near : goal.returns-clause-near
returns-clause-near c =
    let near : IsAllowance (allowance c.args.scene.now c.args.link) = allowance_at c.args.scene.now c.args.link (timed_at c.args.scene.now c.args.link c.requires.scene c.requires.link) in
    rw (returns-clause-value c) (omega (arith, ints, near.low, near.high))
