use Rattle.std.proofs.Common.{◌≡◌}
use Rattle.part_tests.proofs.cores.counts_found.Given as goal

abbrev pub invariant-loop : goal.invariant-loop
invariant-loop l = l.core.scene ≡ l.scene
