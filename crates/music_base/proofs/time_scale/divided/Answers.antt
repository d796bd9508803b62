use Rattle.std.proofs.Common.{sym, arith, ◌∙◌}
use Rattle.music_base.proofs.Scaling.{ten_fits, ten_pos, scaled-far, scaled-divided, scaled-not_divided}
use Rattle.music_base.proofs.time_scale.divided.Goals as goal

pub returns-then-by-ge30 : goal.returns-then-by-ge30
returns-then-by-ge30 c = sym (scaled-far c.args.digits c.args.by c.requires.some c.requires.few c.if-by-ge30.true)

pub pow-power-requires : goal.pow-power-requires
pow-power-requires c = ten_fits c.args.by (omega arith)

pub nonzero_rem-digits : goal.nonzero_rem-digits
nonzero_rem-digits c = rw c.pow-power.ensures (ten_pos c.args.by)

pub returns-then-digits-power-ne0 : goal.returns-then-digits-power-ne0
returns-then-digits-power-ne0 c = sym (scaled-not_divided c.args.digits c.args.by (rw c.pow-power.ensures at c.if-digits-power-ne0.true))

pub returns : goal.returns
returns c =
    (rw c.pow-power.ensures at c.in_range.ensures) ∙ sym (scaled-divided c.args.digits c.args.by (rw c.pow-power.ensures at c.if-digits-power-ne0.false))
