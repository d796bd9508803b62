use Rattle.port_table.proofs.LawfulPorts.{ports_of-are}
use Rattle.port_table.proofs.laws.read_ports_stand.Goals as goal

pub returns : goal.returns
returns c = λ np text ports some gave. ports_of-are np text ports some gave
