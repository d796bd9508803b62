use Rattle.std.proofs.Common.{◌≡◌, ℕ, ◌<◌, ◌≤◌, true, false, slice_index_or}
use Rattle.scene_model.specs.declared.wait.Wait.{Wait}
use Rattle.tick_plan.specs.Heights.{IsRelaxed, IsSearch, gap_of}
use Rattle.tick_plan.proofs.relaxing.relax_each.Given as goal

abbrev pub invariant-loop-at : goal.invariant-loop-at
invariant-loop-at l = record {
  search : IsSearch l.applications l.waits l.search;
  relaxed : l.raised ≡ false → (k : ℕ) (d : Wait) → k < l.at → IsRelaxed l.applications l.search.heights.items (slice_index_or l.waits k d);
  no_more : gap_of l.search.heights.items ≤ gap_of l.fn.search.heights.items;
  less : l.raised ≡ true → gap_of l.search.heights.items < gap_of l.fn.search.heights.items;
}
