use Rattle.std.proofs.Common.{◌≡◌, ◌+◌, ◌*◌, ◌++◌, map}
use Rattle.std.specs.List.{range_with_len}
use Rattle.scene_model.specs.Turns.{message, times_below}
use Rattle.rule_turns.proofs.periods.say_every.Given as goal

abbrev pub invariant-loop-i : goal.invariant-loop-i
invariant-loop-i l = l.items ≡ l.initial.items ++ map (message l.word) (map (λ i. l.first + i * l.every) (range_with_len (times_below l.every l.first l.from) l.i))
