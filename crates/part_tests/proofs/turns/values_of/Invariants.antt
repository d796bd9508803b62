use Rattle.std.proofs.Common.{take}
use Rattle.music_base.specs.Items.{AreValues}
use Rattle.part_tests.proofs.turns.values_of.Given as goal

abbrev pub invariant-loop-i : goal.invariant-loop-i
invariant-loop-i l = AreValues (take l.i l.indices) l.items.items
