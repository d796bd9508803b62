use Rattle.std.proofs.Common.{◌≡◌, take}
use Rattle.music_base.proofs.copying.copy_all.Given as goal

abbrev pub invariant-loop-element : goal.invariant-loop-element
invariant-loop-element g l = l.copies.items ≡ take l.element-index l.elements
