use Rattle.std.proofs.Common.{◌≡◌, length, take}
use Rattle.music_base.specs.Items.{AreValues}
use Rattle.port_inbox.proofs.kept_sample.are_values.Given as goal

abbrev pub invariant-loop-place : goal.invariant-loop-place
invariant-loop-place l = record {
  sized : length l.items ≡ length l.indices;
  values : AreValues (take l.place l.indices) (take l.place l.items);
}
