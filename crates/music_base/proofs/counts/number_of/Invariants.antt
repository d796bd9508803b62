use Rattle.std.proofs.Common.{◌-◌, ◌^◌}
use Rattle.music_base.proofs.DigitValues.{IsNumberSoFar}
use Rattle.music_base.proofs.counts.number_of.Given as goal

abbrev pub invariant-loop-digit : goal.invariant-loop-digit
invariant-loop-digit l = IsNumberSoFar (2 ^ 64 - 1) 0 l.digits l.digit-index l.value
