use Rattle.std.proofs.Common.{refl}
use Rattle.port_table.proofs.reading.output_twice.Goals as goal

pub returns-in-Input : goal.returns-in-Input
returns-in-Input c = rw c.in-Input.is refl
