use Rattle.std.proofs.Common.{◌≡◌, ◌<◌, ℕ, length}
use Rattle.std.specs.Prelude.{slice_index}
use Rattle.scene_model.specs.Clocks.{wanted}
use Rattle.act_orders.proofs.opening.need.Given as goal

abbrev pub invariant-loop-place : goal.invariant-loop-place
invariant-loop-place l = record {
  count : length l.needs.items ≡ length l.initial.needs.items;
  each : (i : ℕ) → i < l.place → slice_index l.needs.items (slice_index l.into i) ≡ wanted l.scene (slice_index l.into i) l.step;
  others : (c : ℕ) → ((i : ℕ) → i < l.place → slice_index l.into i ≡ c → ⊥) → slice_index l.needs.items c ≡ slice_index l.initial.needs.items c;
}
