use Rattle.app_scripts.proofs.Faultless.{rules_of-are}
use Rattle.app_scripts.proofs.laws.spelled_rules_stand.Goals as goal

pub returns : goal.returns
returns c = λ ports tick stop text rules gave. rules_of-are ports tick stop text rules gave
