use Rattle.std.proofs.Common.{sym, ◌∙◌}
use Rattle.config_text.proofs.SettingLine.{plain_read}
use Rattle.config_text.proofs.setting_line.value_behind.Goals as goal

pub returns-then-is_plain : goal.returns-then-is_plain
returns-then-is_plain c = rw c.trimmed.ensures (plain_read c.args.behind.now (sym c.is_plain.ensures ∙ c.if-is_plain.true))
