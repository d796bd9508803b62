use Rattle.std.proofs.Common.{◌-◌, ◌^◌}
use Rattle.music_base.proofs.DigitValues.{one_more}
use Rattle.music_base.proofs.counts.number_of.Goals as goal

pub loop-digit-preserved : goal.loop-digit-preserved
loop-digit-preserved c =
    let next = one_more (2 ^ 64 - 1) 0 c.args.digits.now c.loop-digit.digit-index c.loop-digit.value c.requires c.loop-digit-test.true c.loop-digit.invariant in
    rw (c.saturating_add-value.ensures, c.saturating_mul.ensures, c.from-worth.ensures) next
