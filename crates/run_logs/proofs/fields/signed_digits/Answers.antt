use Rattle.std.proofs.Common.{◌∙◌, ◌≡◌, ap}
use Rattle.std.specs.Fmt.{signed_decimal}
use Rattle.std.specs.Int.{w64}
use Rattle.std.proofs.lemmas.Int.{to_z-of_z}
use Rattle.run_logs.proofs.PlainTexts.{signed_decimal_is_plain}
use Rattle.run_logs.proofs.fields.signed_digits.Goals as goal

pub returns : goal.returns
returns c =
    let text : c.as_bytes.result.now ≡ signed_decimal c.args.number = c.as_bytes.ensures.value ∙ c.format.ensures.text ∙ ap signed_decimal (to_z-of_z w64 c.args.number c.ranges.number) in
    record { text = text; short = rw c.as_bytes.ensures.value c.format.ensures.fits; plain = rw text (signed_decimal_is_plain c.args.number c.ranges.number) }
