use Rattle.std.proofs.Common.{◌≡◌, length, ◌-◌, ◌≤◌}
use Rattle.music_base.specs.Outside.{Gave}
use Rattle.music_base.proofs.streams.read_all.Given as goal

abbrev pub invariant-loop-piece : goal.invariant-loop-piece
invariant-loop-piece g l = record {
  read : Gave (g.S.Source.left l.initial.source) l.bytes.items (g.S.Source.left l.source);
  size : length l.bytes.items ≤ l.most;
  stays : g.S.Source.faults l.source ≡ g.S.Source.faults l.initial.source;
}

abbrev pub decreases-loop-piece : goal.decreases-loop-piece
decreases-loop-piece g l = l.most - length l.bytes.items
