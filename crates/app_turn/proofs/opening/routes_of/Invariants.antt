use Rattle.std.proofs.Common.{take}
use Rattle.music_base.specs.Pairs.{AllPaired}
use Rattle.port_inbox.specs.Holding.{IsRoutesOf}
use Rattle.app_turn.proofs.opening.routes_of.Given as goal

abbrev pub invariant-loop-place : goal.invariant-loop-place
invariant-loop-place l = AllPaired (IsRoutesOf l.scene) (take l.place l.links) l.all.items
