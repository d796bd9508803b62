use Rattle.std.proofs.Common.{◌≡◌, map, take}
use Rattle.port_inbox.specs.Inboxes.{fresh_line}
use Rattle.port_inbox.proofs.lines.fresh_lines.Given as goal

abbrev pub invariant-loop-link : goal.invariant-loop-link
invariant-loop-link l = l.lines.items ≡ map fresh_line (take l.link-index l.links)
