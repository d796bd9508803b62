use Rattle.std.proofs.Common.{◌≡◌, ℕ, [], length, get_or}
use Rattle.app_turn.proofs.by_rank.empty_lists.Given as goal

abbrev pub invariant-loop : goal.invariant-loop
invariant-loop l = record {
  counted : length l.lists.items ≡ l.counter;
  empty : (r : ℕ) → get_or l.lists.items r [] ≡ [];
}
