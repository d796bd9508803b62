use Rattle.std.proofs.Common.{refl}
use Rattle.port_table.proofs.reading.port_with.Goals as goal

pub returns : goal.returns
returns c = rw (c.unwrap_or.ensures, c.unwrap_or-2.ensures, c.unwrap_or-3.ensures) refl
