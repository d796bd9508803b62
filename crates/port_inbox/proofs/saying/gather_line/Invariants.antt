use Rattle.std.proofs.Common.{◌≡◌, ◌++◌, drop}
use Rattle.port_inbox.specs.Gathering.{blocks_told, is_in}
use Rattle.port_inbox.proofs.saying.gather_line.Given as goal

abbrev pub invariant-loop-kept : goal.invariant-loop-kept
invariant-loop-kept l =
    l.out.items ++ blocks_told (is_in l.window) l.link (drop l.kept-index l.kept-items) ≡ l.initial.out.items ++ blocks_told (is_in l.window) l.link l.kept-items
