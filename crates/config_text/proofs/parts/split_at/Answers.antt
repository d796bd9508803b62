use Rattle.std.proofs.Common.{◌+◌}
use Rattle.std.proofs.lemmas.List.{take_rest}
use Rattle.config_text.proofs.SettingLine.{cut_at}
use Rattle.config_text.proofs.parts.split_at.Goals as goal

pub returns-in-Some-clause-parts : goal.returns-in-Some-clause-parts
returns-in-Some-clause-parts c =
    rw (take_rest c.args.bytes.now (c.in-Some.place + 1)) (cut_at c.args.bytes.now c.args.byte c.in-Some.place c.in-Some.ensures.place)
