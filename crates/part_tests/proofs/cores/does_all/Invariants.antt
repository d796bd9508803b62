use Rattle.std.proofs.Common.{◌≡◌}
use Rattle.part_tests.proofs.cores.does_all.Given as goal

abbrev pub invariant-loop-act : goal.invariant-loop-act
invariant-loop-act l = l.core.scene ≡ l.scene
