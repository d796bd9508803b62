use Rattle.std.proofs.Common.{sym, arith, ◌∙◌}
use Rattle.music_base.proofs.Scaling.{scaled-zero, scaled-raised, scaled-lowered}
use Rattle.music_base.proofs.time_scale.scaled.Goals as goal

pub returns-then-digits-eq0 : goal.returns-then-digits-eq0
returns-then-digits-eq0 c = rw c.if-digits-eq0.true (sym (scaled-zero c.args.up c.args.down))

pub returns-then-down-up : goal.returns-then-down-up
returns-then-down-up c = c.multiplied.ensures ∙ sym (scaled-raised c.args.digits c.args.up c.args.down c.if-down-up.true)

pub returns-else-down-up : goal.returns-else-down-up
returns-else-down-up c = c.divided.ensures ∙ sym (scaled-lowered c.args.digits c.args.up c.args.down (omega arith))
