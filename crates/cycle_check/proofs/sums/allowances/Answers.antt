use Rattle.std.proofs.Common.{◌∙◌, ap, sym, ◌<◌, ◌+ℤ◌, arith}
use Rattle.std.proofs.lemmas.Int.{ints}
use Rattle.scene_model.specs.Cover.{IsBounded, most_waits}
use Rattle.scene_model.specs.declared.wait.Wait.{Wait}
use Rattle.cycle_check.proofs.SumSteps.{sum_fits, sum_of-more}
use Rattle.cycle_check.proofs.sums.allowances.Goals as goal

pub loop-wait-preserved : goal.loop-wait-preserved
loop-wait-preserved c =
    let w = c.wait-item.result in
    let bounded : IsBounded w = rw c.wait-item.is (c.requires.bounded c.loop-wait.wait-index w c.loop-wait-test.true) in
    let short : c.loop-wait.wait-index < most_waits = omega (arith, c.requires.short) in
    let sofar = c.loop-wait.invariant in
    let step = sum_fits _ w.allowance c.loop-wait.wait-index short sofar.low sofar.high bounded.allowance_low bounded.allowance_high in
    let more = sum_of-more (λ (v : Wait). v.allowance) c.args.waits.now c.loop-wait.wait-index w c.loop-wait-test.true c.wait-item.is in
    record {
      sum = step ∙ ap (λ z. z +ℤ w.allowance) sofar.sum ∙ sym more;
      low = rw step (omega (arith, ints, sofar.low, bounded.allowance_low));
      high = rw step (omega (arith, ints, sofar.high, bounded.allowance_high));
    }
