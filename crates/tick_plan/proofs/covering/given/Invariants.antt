use Rattle.std.proofs.Common.{◌≡◌, ℕ, map, take, Some}
use Rattle.tick_plan.proofs.covering.given.Given as goal

abbrev pub invariant-loop-limit : goal.invariant-loop-limit
invariant-loop-limit l = l.given.items ≡ map (λ (m : ℕ). Some m) (take l.limit-index l.limits)
