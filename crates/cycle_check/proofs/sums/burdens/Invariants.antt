use Rattle.std.proofs.Common.{◌≡◌, ◌*◌, take, pos, ◌+ℤ◌, ◌≤ℤ◌}
use Rattle.scene_model.specs.Cover.{burdens, greatest_number}
use Rattle.cycle_check.proofs.sums.burdens.Given as goal

abbrev pub invariant-loop-wait : goal.invariant-loop-wait
invariant-loop-wait l = record {
  sum : l.sum ≡ burdens (take l.wait-index l.waits);
  low : pos 0 ≤ℤ (l.sum +ℤ pos (l.wait-index * greatest_number));
  high : l.sum ≤ℤ pos (l.wait-index * greatest_number);
}
