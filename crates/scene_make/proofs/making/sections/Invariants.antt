use Rattle.std.proofs.Common.{◌≡◌, map}
use Rattle.music_base.specs.Numbers.{below}
use Rattle.scene_make.specs.Made.{section_of}
use Rattle.scene_make.proofs.making.sections.Given as goal

abbrev pub invariant-loop-place : goal.invariant-loop-place
invariant-loop-place l = l.sections ≡ map (section_of l.number) (below l.place)
