use Rattle.std.proofs.Common.{◌≡◌, ◌++◌, drop, map}
use Rattle.std.specs.List.{flat_map}
use Rattle.port_inbox.specs.Gathering.{sent_said}
use Rattle.port_inbox.specs.Words.{line_said}
use Rattle.port_inbox.proofs.saying.gather.Given as goal

abbrev pub invariant-loop-line : goal.invariant-loop-line
invariant-loop-line l =
    map sent_said l.out.items ++ flat_map (line_said l.start l.tick l.step) (drop l.line-index l.lines)
    ≡ map sent_said l.initial.out.items ++ flat_map (line_said l.start l.tick l.step) l.lines
