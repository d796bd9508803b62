use Rattle.std.proofs.Common.{◌≡◌, ◌++◌, drop}
use Rattle.port_inbox.specs.Gathering.{blocks_found, is_in}
use Rattle.port_inbox.proofs.finding.gather_line.Given as goal

abbrev pub invariant-loop-kept : goal.invariant-loop-kept
invariant-loop-kept l =
    l.out.items ++ blocks_found (is_in l.window) l.place l.link (drop l.kept-index l.kept-items) ≡ l.initial.out.items ++ blocks_found (is_in l.window) l.place l.link l.kept-items
