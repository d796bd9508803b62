use Rattle.std.proofs.Common.{arith}
use Rattle.music_base.proofs.TimeForm.{exponent_digits, size_read, exponent_size-below}
use Rattle.music_base.proofs.time_parts.exponent_size.Goals as goal

pub number_behind-requires : goal.number_behind-requires
number_behind-requires c = rw (c.without_sign.ensures, c.requires.cut.exponent) (exponent_digits c.args.cut.text.now c.requires.form).0

pub returns-clause-value : goal.returns-clause-value
returns-clause-value c = rw (c.number_behind.ensures, c.without_sign.ensures, c.requires.cut.exponent) (size_read c.args.cut.text.now c.requires.form)

pub overflow_cast-result : goal.overflow_cast-result
overflow_cast-result c =
    let small = rw (← size_read c.args.cut.text.now c.requires.form) at (exponent_size-below c.args.cut.text.now c.requires.form) in
    omega (arith, small, rw (c.without_sign.ensures, c.requires.cut.exponent) at c.number_behind.ensures)

pub returns-clause-small : goal.returns-clause-small
returns-clause-small c =
    rw (c.number_behind.ensures, c.without_sign.ensures, c.requires.cut.exponent, size_read c.args.cut.text.now c.requires.form) (exponent_size-below c.args.cut.text.now c.requires.form)
