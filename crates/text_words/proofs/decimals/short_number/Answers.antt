use Rattle.std.proofs.Common.{arith}
use Rattle.music_base.proofs.DigitValues.{digits_value-below}
use Rattle.text_words.specs.Numbers.{most_whole_digits}
use Rattle.text_words.proofs.decimals.short_number.Goals as goal

pub returns-clause-value : goal.returns-clause-value
returns-clause-value c = omega (arith, c.number_of.ensures, digits_value-below most_whole_digits c.args.digits.now c.requires.digits c.requires.few)

pub returns-clause-small : goal.returns-clause-small
returns-clause-small c = omega (arith, c.number_of.ensures, digits_value-below most_whole_digits c.args.digits.now c.requires.digits c.requires.few)
