use Rattle.std.proofs.Common.{◌≡◌, ◌++◌, drop, map, take}
use Rattle.port_inbox.specs.Inboxes.{forgotten}
use Rattle.port_inbox.proofs.lines.forget_past.Given as goal

abbrev pub invariant-loop-line : goal.invariant-loop-line
invariant-loop-line l = l.lines ≡ map (forgotten l.start l.tick l.step) (take l.line-index l.initial.lines) ++ drop l.line-index l.initial.lines
