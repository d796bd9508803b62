use Rattle.std.proofs.Common.{◌≡◌, replicate, None}
use Rattle.app_turn.proofs.opening.no_blocks.Given as goal

abbrev pub invariant-loop : goal.invariant-loop
invariant-loop l = l.all.items ≡ replicate l.counter None
