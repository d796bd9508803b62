-- The history of a scene with a plan that fits: it is a proper table that stays as it is, and its blocks are those of its lives.
use Rattle.std.proofs.Common.{ℕ, ◌<◌, ◌≡◌, refl, sym, ◌∙◌, ap, subst, List, [], length}
use Rattle.std.specs.Prelude.{slice_index_or}
use Rattle.scene_model.specs.Clocks.{steps}
use Rattle.scene_model.specs.Faults.{IsFaultless}
use Rattle.scene_model.specs.Lives.{again, history}
use Rattle.scene_model.specs.Scenes.{link_at, sender}
use Rattle.scene_model.specs.Tables.{IsProper, StepOutput, Table, block_on}
use Rattle.scene_model.specs.declared.scene.Scene.{Scene}
use Rattle.scene_model.proofs.Enabled.{live}
use Rattle.scene_model.proofs.Faultless.{connection_is}
use Rattle.scene_model.proofs.Finish.{can_finish}
use Rattle.scene_model.proofs.FixedTables.{again_step, one_history}
use Rattle.scene_model.proofs.ProperLives.{again-proper, length-steps_of}
use Rattle.scene_model.proofs.SceneWaits.{fits_each_passes}
use Rattle.scene_model.proofs.WellFormedScenes.{well_formed}
use Rattle.port_buffers.specs.Shapes.{FitsShape}
use Rattle.app_turn.specs.Machines.{HasBlock, life_block}
use Rattle.app_turn.specs.Shapes.{shape}
use Rattle.app_turn.proofs.Fitting.{fits}
use Rattle.step_core.specs.Cores.{ArePlanned, past_block}

module _ (scene : Scene) (limits : List ℕ) (faultless : IsFaultless scene) (planned : ArePlanned scene limits) where
  pub fixed : again scene (history scene) ≡ history scene
  fixed =
      let fit = planned.1 in
      let goes = live scene (well_formed scene faultless) limits planned.0 fit.limits_counted (fits_each_passes scene limits planned.0 fit) in
      let order = can_finish scene limits goes [] (fit.limits_counted, tt) in
      (one_history scene faultless limits order.0 order.1 order.2 (history scene)).1 refl

  pub proper : IsProper scene (history scene)
  proper = subst (IsProper scene) fixed (again-proper scene (history scene) faultless)

  -- what a life gives is what the history has
  pub life_is : (c k : ℕ) → c < length scene.links → k < steps scene (sender scene c) → life_block scene (history scene) c k ≡ block_on scene (history scene) c k
  life_is c k link there =
      let step = again_step scene (history scene) (sender scene c) k (connection_is scene faultless c link).from_app there in
      ap (λ (o : StepOutput). slice_index_or o (link_at scene c).from_port []) (sym step) ∙ ap (λ (t : Table). block_on scene t c k) fixed

  -- the history has each block of each step
  pub has_block : (c k : ℕ) → c < length scene.links → k < steps scene (sender scene c) → HasBlock scene (history scene) c k
  has_block c k link there =
      let row = length-steps_of scene (history scene) (sender scene c) (connection_is scene faultless c link).from_app in
      let F : Table → Type 0 = λ t. k < length (slice_index_or t (sender scene c) []) in
      subst F fixed (rw row there)

  -- and each fits its connection
  pub past_fits : (c k : ℕ) → c < length scene.links → k < steps scene (sender scene c) → FitsShape (shape scene c) (past_block scene c k)
  past_fits c k link there =
      let ends = connection_is scene faultless c link in
      fits scene c k (block_on scene (history scene) c k) (rw ends.from_output at (proper.blocks (sender scene c) k (link_at scene c).from_port ends.from_app (has_block c k link there) ends.from_port))
