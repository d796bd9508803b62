use Rattle.std.proofs.Common.{◌≡◌, drop}
use Rattle.port_inbox.specs.Gathering.{later_of, latest_of}
use Rattle.port_inbox.proofs.kept.latest.Given as goal

abbrev pub invariant-loop-item : goal.invariant-loop-item
invariant-loop-item l = latest_of l.items ≡ later_of l.found (latest_of (drop l.item-index l.items))
