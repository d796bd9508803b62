use Rattle.std.proofs.Common.{refl}
use Rattle.music_base.proofs.time_parts.is_lowering.Goals as goal

pub returns : goal.returns
returns c = rw (c.is_negative.ensures, c.requires.exponent) refl
