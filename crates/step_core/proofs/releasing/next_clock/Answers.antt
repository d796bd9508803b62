use Rattle.std.proofs.Common.{◌≡◌, ◌∙◌, ap, sym, true, false}
use Rattle.std.specs.Prelude.{min}
use Rattle.step_core.proofs.NextClocks.{next_moves, next_stays}
use Rattle.step_core.proofs.releasing.next_clock.Goals.{then-has_step, else-has_step}
use Rattle.step_core.proofs.releasing.next_clock.Goals as goal

pub loop-machine-preserved : goal.loop-machine-preserved
loop-machine-preserved c =
    let machines = c.args.machines.now in
    let place = c.loop-machine.machine-index in
    let m = c.machine-item.result in
    elim c.if-has_step.branch [
      | then-has_step w ↦
          let less = ap (λ n. min n w.min.inside.0) w.least.view_is ∙ ap (min c.loop-machine.least) (w.min.view_is ∙ w.clock.ensures) in
          next_moves machines place _ c.loop-machine.least c.loop-machine.invariant m c.loop-machine-test.true c.machine-item.is
          (c.has_step.ensures.0 w.if-has_step.true) c.if-has_step.least (w.least-is ∙ w.min-then-has_step.ensures ∙ less)
      | else-has_step w ↦
          rw w.least-is (next_stays machines place _ c.loop-machine.least c.loop-machine.invariant m c.loop-machine-test.true c.machine-item.is
          (λ left. let t : true ≡ false = sym (c.has_step.ensures.1 left) ∙ w.if-has_step.false in cc))
    ]
