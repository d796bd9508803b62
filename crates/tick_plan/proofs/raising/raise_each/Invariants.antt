use Rattle.std.proofs.Common.{◌≡◌, ℕ, ◌<◌, ◌≤◌, true, false, slice_index, slice_index_or}
use Rattle.scene_model.specs.declared.wait.Wait.{Wait}
use Rattle.tick_plan.specs.Heights.{IsRising, IsRelaxed, gap_of}
use Rattle.tick_plan.proofs.raising.raise_each.Given as goal

abbrev pub ghost-raise : goal.ghost-raise
ghost-raise g a = g.starts

abbrev pub invariant-loop-at : goal.invariant-loop-at
invariant-loop-at g l = record {
  rising : IsRising l.applications l.waits (slice_index g.starts) l.heights;
  relaxed : l.raised ≡ false → (k : ℕ) (d : Wait) → k < l.at → IsRelaxed l.applications l.heights (slice_index_or l.waits k d);
  no_more : gap_of l.heights ≤ gap_of l.fn.heights;
  less : l.raised ≡ true → gap_of l.heights < gap_of l.fn.heights;
}
