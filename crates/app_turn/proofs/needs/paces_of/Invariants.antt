use Rattle.std.proofs.Common.{◌≡◌, map, take}
use Rattle.app_turn.specs.Paces.{pace_of}
use Rattle.app_turn.proofs.needs.paces_of.Given as goal

abbrev pub invariant-loop-place : goal.invariant-loop-place
invariant-loop-place l = l.paces.items ≡ map (pace_of l.scene) (take l.place l.links)
