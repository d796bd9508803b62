use Rattle.config_text.specs.Inner.{seen}
use Rattle.config_text.proofs.Fitting.{lawful_content}
use Rattle.config_text.proofs.reading.read_line.Goals as goal

pub add_line-requires : goal.add_line-requires
add_line-requires c = lawful_content c.args.line.now (seen c.in-Ok.content) c.in-Ok.ensures
