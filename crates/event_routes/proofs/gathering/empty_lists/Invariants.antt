use Rattle.std.proofs.Common.{◌≡◌, ℕ, [], length, get_or}
use Rattle.event_routes.proofs.gathering.empty_lists.Given as goal

abbrev pub invariant-loop : goal.invariant-loop
invariant-loop l = record {
  counted : length l.lists.items ≡ l.counter;
  empty : (g : ℕ) → get_or l.lists.items g [] ≡ [];
}
