use Rattle.std.proofs.Common.{◌≡◌}
use Rattle.std.specs.List.{flat_map}
use Rattle.music_base.specs.Numbers.{below}
use Rattle.scene_make.specs.Made.{links_from}
use Rattle.scene_make.proofs.ring.ring_links.Given as goal

abbrev pub invariant-loop-place : goal.invariant-loop-place
invariant-loop-place l = l.links ≡ flat_map (links_from l.count) (below l.place)
