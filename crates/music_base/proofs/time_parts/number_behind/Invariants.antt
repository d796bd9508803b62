use Rattle.std.proofs.Common.{◌-◌, ◌^◌}
use Rattle.music_base.proofs.DigitValues.{IsNumberSoFar}
use Rattle.music_base.proofs.time_parts.number_behind.Given as goal

abbrev pub invariant-loop-digit : goal.invariant-loop-digit
invariant-loop-digit l = IsNumberSoFar (2 ^ 128 - 1) l.fn.number l.digits l.digit-index l.value
