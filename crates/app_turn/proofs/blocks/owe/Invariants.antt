use Rattle.std.proofs.Common.{◌≡◌, ◌<◌, ◌≤◌, ℕ, length, map, None, Option}
use Rattle.std.specs.Prelude.{slice_index, slice_index_or}
use Rattle.music_base.specs.declared.item.Block.{Block}
use Rattle.app_turn.proofs.blocks.owe.Given as goal

abbrev pub invariant-loop-place : goal.invariant-loop-place
invariant-loop-place l = record {
  count : length l.pending.items ≡ length l.initial.pending.items;
  counted : length l.blocks.items ≡ length l.out;
  rest : (i : ℕ) → l.place ≤ i → slice_index_or l.blocks.items i None ≡ slice_index_or l.initial.blocks.items i None;
  each : (f : ℕ → Option Block) → l.initial.blocks.items ≡ map f l.out → (i : ℕ) → i < l.place → slice_index_or l.pending.items (slice_index l.out i) None ≡ f (slice_index l.out i);
}
