use Rattle.std.proofs.Common.{◌≡◌, ◌<◌, ◌≤◌, ℕ, [], length, map, take}
use Rattle.std.specs.Prelude.{slice_index, slice_index_or}
use Rattle.app_turn.specs.Steps.{begins_at, block_for}
use Rattle.app_turn.proofs.blocks.fill_blocks.Given as goal

abbrev pub invariant-loop-place : goal.invariant-loop-place
invariant-loop-place l = record {
  made : l.blocks.items ≡ map (λ c. block_for l.scene l.step l.initial.outputs.items (slice_index l.most c) c) (take l.place l.out);
  rest : (i : ℕ) → l.place ≤ i → i < length l.out → slice_index_or l.outputs.items (begins_at l.scene l.out i) [] ≡ slice_index_or l.initial.outputs.items (begins_at l.scene l.out i) [];
}
