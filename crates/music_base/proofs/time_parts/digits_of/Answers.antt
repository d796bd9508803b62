use Rattle.music_base.proofs.TimeForm.{digits_read, digits_of-below}
use Rattle.music_base.proofs.time_parts.digits_of.Goals as goal

pub returns-clause-value : goal.returns-clause-value
returns-clause-value c =
    rw (c.number_behind-2.ensures, c.number_behind.ensures, c.requires.cut.whole, c.requires.cut.fraction) (digits_read c.args.cut.text.now c.requires.form)

pub returns-clause-few : goal.returns-clause-few
returns-clause-few c =
    rw (c.number_behind-2.ensures, c.number_behind.ensures, c.requires.cut.whole, c.requires.cut.fraction, digits_read c.args.cut.text.now c.requires.form)
    (digits_of-below c.args.cut.text.now c.requires.form)
