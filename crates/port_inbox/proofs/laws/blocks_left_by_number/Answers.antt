use Rattle.port_inbox.proofs.Numbered.{left_is}
use Rattle.port_inbox.proofs.laws.blocks_left_by_number.Goals as goal

pub returns : goal.returns
returns c = λ test a n k blocks h. left_is test blocks a n k h
