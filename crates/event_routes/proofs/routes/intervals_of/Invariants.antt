use Rattle.std.proofs.Common.{◌≡◌, take}
use Rattle.event_routes.specs.Blocks.{cuts_of}
use Rattle.event_routes.proofs.routes.intervals_of.Given as goal

abbrev pub invariant-loop-block : goal.invariant-loop-block
invariant-loop-block l = l.intervals.items ≡ cuts_of (take l.block-index l.blocks)
