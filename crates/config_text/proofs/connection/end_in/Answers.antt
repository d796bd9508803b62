use Rattle.std.proofs.Common.{sym}
use Rattle.config_text.proofs.Ending.{end_found, end_missing}
use Rattle.config_text.proofs.connection.end_in.Goals as goal

pub returns-then-are_names : goal.returns-then-are_names
returns-then-are_names c =
    end_found c.args.text.now c.trimmed-names.result.now c.before_first-app.result.now c.after_first-port.result.now
    c.trimmed-names.ensures c.before_first-app.ensures c.after_first-port.ensures (sym c.if-are_names.ensures)

pub returns-else-are_names : goal.returns-else-are_names
returns-else-are_names c =
    end_missing c.args.text.now c.trimmed-names.result.now c.before_first-app.result.now c.after_first-port.result.now
    c.trimmed-names.ensures c.before_first-app.ensures c.after_first-port.ensures (sym c.if-are_names.ensures)
