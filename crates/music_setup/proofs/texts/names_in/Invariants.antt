-- The names of the sections so far.
use Rattle.std.proofs.Common.{◌≡◌, map, take}
use Rattle.music_setup.specs.Texts.{names_in}
use Rattle.music_setup.proofs.texts.names_in.Given as goal

abbrev pub invariant-loop-place : goal.invariant-loop-place
invariant-loop-place l = map (λ name. name.now) l.names.items ≡ names_in (take l.place l.sections)
