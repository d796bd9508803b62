use Rattle.config_text.proofs.SpelledLaws.{spelled_lawful}
use Rattle.config_text.proofs.laws.lawful_reading.Goals as goal

pub returns : goal.returns
returns c = spelled_lawful
