use Rattle.config_text.proofs.SettingLine.{front_read}
use Rattle.config_text.proofs.content.content_of.Goals as goal

pub returns-in-Some : goal.returns-in-Some
returns-in-Some c =
    rw (front_read c.args.line.now c.in-Some.name.now c.in-Some.behind.now c.in-Some.ensures) c.content_of_setting.ensures
