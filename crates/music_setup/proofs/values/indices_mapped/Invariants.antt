-- The sizes of the ranks so far, or the most that a word holds.
use Rattle.std.proofs.Common.{◌≡◌, length}
use Rattle.std.specs.Io.Iter.{u64_saturate}
use Rattle.music_base.specs.Numbers.{total_below}
use Rattle.index_maps.specs.Maps.{globals_of}
use Rattle.music_setup.proofs.values.indices_mapped.Given as goal

abbrev pub invariant-loop-map : goal.invariant-loop-map
invariant-loop-map l = l.total ≡ u64_saturate (total_below (λ rank. length (globals_of l.fn.map rank)) l.map-index)

abbrev pub invariant-loop-rank : goal.invariant-loop-rank
invariant-loop-rank l = l.total ≡ u64_saturate (total_below (λ rank. length (globals_of l.map rank)) l.rank)
