use Rattle.std.proofs.Common.{◌≡◌, ◌<◌, ℕ, List, length, map}
use Rattle.std.specs.Prelude.{slice_index}
use Rattle.scene_model.specs.Clocks.{wanted}
use Rattle.scene_model.specs.declared.scene.Scene.{Scene}
use Rattle.app_turn.specs.Paces.{pace_of}
use Rattle.app_turn.proofs.needs.need.Given as goal

abbrev pub invariant-loop-pace : goal.invariant-loop-pace
invariant-loop-pace l = record {
  count : length l.needs.items ≡ length l.initial.needs.items;
  each : (scene : Scene) (into : List ℕ) → l.paces ≡ map (pace_of scene) into → (i : ℕ) → i < l.pace-index
      → slice_index l.needs.items (slice_index into i) ≡ wanted scene (slice_index into i) l.step;
}
