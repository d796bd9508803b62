use Rattle.std.proofs.Common.{arith}
use Rattle.std.specs.Int.{w32, w64}
use Rattle.std.proofs.lemmas.Int.{ints, to_z-of_z}
use Rattle.app_scripts.specs.Forms.{shift_word}
use Rattle.app_scripts.proofs.words.shift_word.Goals as goal

pub returns : goal.returns
unfolding shift_word
returns c =
    let least = c.in_ok-shift.ensures.least in
    let most = c.in_ok-shift.ensures.most in
    rw (to_z-of_z w64 c.in_ok-shift.shift (omega (arith, ints)), to_z-of_z w32 c.in_ok-shift.shift (omega (arith, ints))) c.in_ok-shift.ensures.number
