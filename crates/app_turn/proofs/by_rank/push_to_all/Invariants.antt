use Rattle.std.proofs.Common.{◌≡◌, ◌<◌, ◌≤◌, ◌++◌, ◌∷◌, ℕ, [], length, get_or}
use Rattle.app_turn.proofs.by_rank.push_to_all.Given as goal

abbrev pub invariant-loop-rank : goal.invariant-loop-rank
invariant-loop-rank l = record {
  counted : length l.lists.items ≡ length l.initial.lists.items;
  done : (r : ℕ) → r < l.rank → get_or l.lists.items r [] ≡ get_or l.initial.lists.items r [] ++ l.place ∷ [];
  rest : (r : ℕ) → l.rank ≤ r → get_or l.lists.items r [] ≡ get_or l.initial.lists.items r [];
}
