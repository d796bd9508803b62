use Rattle.std.proofs.Common.{◌≡◌, length}
use Rattle.tick_plan.proofs.InTurn.{IsUnderWay}
use Rattle.tick_plan.proofs.choosing.limits_in_turn.Given as goal

abbrev pub invariant-loop-c : goal.invariant-loop-c
invariant-loop-c l = record {
  so_far : length l.limits.items ≡ l.c;
  under_way : IsUnderWay l.scene l.counting.items l.limits.items;
}
