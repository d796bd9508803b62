use Rattle.std.proofs.Common.{◌≡◌, ◌≤◌, length}
use Rattle.std.specs.List.{filter}
use Rattle.music_base.specs.Numbers.{below}
use Rattle.app_turn.specs.OwnLinks.{same_end}
use Rattle.app_turn.proofs.opening.place_of.Given as goal

abbrev pub invariant-loop-other : goal.invariant-loop-other
invariant-loop-other l = record {
  counts : l.place ≡ length (filter (same_end l.scene l.link) (below l.other));
  at_most : l.place ≤ l.other;
}
