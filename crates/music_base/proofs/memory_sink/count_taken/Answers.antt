use Rattle.std.proofs.Common.{arith}
use Rattle.music_base.proofs.memory_sink.count_taken.Goals as goal

pub returns : goal.returns
returns c = omega (arith, c.min.ensures, c.min-fit.ensures)
