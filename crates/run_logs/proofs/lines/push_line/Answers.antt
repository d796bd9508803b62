use Rattle.std.proofs.lemmas.List.{length-map}
use Rattle.run_logs.proofs.PlainFields.{one_more_line}
use Rattle.run_logs.proofs.lines.push_line.Goals as goal

pub returns-in-Ok : goal.returns-in-Ok
returns-in-Ok c =
    let wrote : _ = one_more_line _ _ _ _ c.requires.start c.requires.plain (rw length-map c.requires.two) c.in-Ok.ensures.bytes c.in-Ok.ensures.setup c.in-Ok.ensures.ended c.in-Ok.ensures.clean in
    record { line = wrote.more; start = wrote.start }
