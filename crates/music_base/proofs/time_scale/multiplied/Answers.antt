use Rattle.std.proofs.Common.{sym}
use Rattle.music_base.proofs.Scaling.{in_range-beyond, raised_far, raised_above}
use Rattle.music_base.proofs.time_scale.multiplied.Goals as goal
use Rattle.music_base.proofs.time_scale.multiplied.Goals.{then-by-gt15-via-then-by-gt15, then-by-gt15-via-else-by-gt15+then-digits-gt-GREATEST_TIME}

pub returns-then-by-gt15 : goal.returns-then-by-gt15
returns-then-by-gt15 c =
    elim c.then-by-gt15.branch [
      | then-by-gt15-via-then-by-gt15 w ↦ sym (in_range-beyond _ (raised_far c.args.digits c.args.by c.requires w.if-by-gt15.true))
      | then-by-gt15-via-else-by-gt15+then-digits-gt-GREATEST_TIME w ↦ sym (in_range-beyond _ (raised_above c.args.digits c.args.by w.if-digits-gt-GREATEST_TIME.true))
    ]
