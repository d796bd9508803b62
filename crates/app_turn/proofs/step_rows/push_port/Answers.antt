use Rattle.std.proofs.Common.{◌∙◌, ◌++◌, ap, sym}
use Rattle.std.proofs.lemmas.List.{append-nil}
use Rattle.app_turn.proofs.RowParts.{no_rows}
use Rattle.app_turn.proofs.step_rows.push_port.Goals as goal

pub returns-then-is_quiet : goal.returns-then-is_quiet
returns-then-is_quiet c =
    sym (ap (λ ys. c.args.rows.now ++ ys) (no_rows c.args.decl.now c.args.clock c.args.app c.args.port c.args.items.now (rw c.if-is_quiet.true at c.is_quiet.ensures)) ∙ append-nil c.args.rows.now)
