use Rattle.std.proofs.Common.{◌∙◌}
use Rattle.run_logs.proofs.PlainTexts.{decimal_is_plain}
use Rattle.run_logs.proofs.fields.digits.Goals as goal

pub returns : goal.returns
returns c =
    let text = c.as_bytes.ensures.value ∙ c.format.ensures.text in
    record { text = text; short = rw c.as_bytes.ensures.value c.format.ensures.fits; plain = rw text (decimal_is_plain c.args.number c.ranges.number.fits) }
