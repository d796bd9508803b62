use Rattle.run_logs.proofs.PlainTexts.{name_is_plain}
use Rattle.run_logs.proofs.fields.name_field.Goals as goal

pub returns-clause-plain : goal.returns-clause-plain
returns-clause-plain c = rw c.as_slice.ensures.bytes (name_is_plain c.args.name.now c.as_slice.ensures.name)
