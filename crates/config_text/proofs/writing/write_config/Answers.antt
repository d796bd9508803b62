use Rattle.config_text.proofs.Canonical.{written_again}
use Rattle.config_text.proofs.writing.write_config.Goals as goal

pub returns-clause-again : goal.returns-clause-again
returns-clause-again c = written_again c.args.config.now c.written.result c.written.ensures.lawful c.written.ensures.text
