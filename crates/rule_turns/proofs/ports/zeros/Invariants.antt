use Rattle.std.proofs.Common.{◌≡◌, take}
use Rattle.rule_turns.specs.Turning.{zeros}
use Rattle.rule_turns.proofs.ports.zeros.Given as goal

abbrev pub invariant-loop-global : goal.invariant-loop-global
invariant-loop-global l = l.items.items ≡ zeros (take l.global-index l.indices)
