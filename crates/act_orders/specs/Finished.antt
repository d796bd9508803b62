-- Finished orders, and what a sink has of the text of one.
use Rattle.std.specs.Prelude.{ℕ, List, Option, OnOk, Result}
use Rattle.music_base.specs.Outside.{Took, TookPrefix}
use Rattle.scene_model.specs.Orders.{AllFinished, IsLawful, after_all, opening_counts}
use Rattle.scene_model.specs.declared.act.Act.{Act}
use Rattle.scene_model.specs.declared.scene.Scene.{Scene}
use Rattle.act_orders.specs.OrderTexts.{order_text}
use Rattle.act_orders.specs.Pages.{TookAllBut}

-- each act is allowed by those before it, and after the last one every application is finished
pub record IsFinishedOrder (scene : Scene) (limits : List ℕ) (acts : List Act) : Type 0 where
  pub lawful : IsLawful scene limits acts
  pub finished : AllFinished scene (after_all (opening_counts scene) acts)

-- there is a finished order under these limits of whose text the sink took all where the call succeeded, and in any case a
-- prefix
pub record WroteOrder {T E : Type 0} (scene : Scene) (limits : List ℕ) (before after : Option (List ℕ)) (result : Result T E) : Type 0 where
  pub acts : List Act
  pub is_order : IsFinishedOrder scene limits acts
  pub all : OnOk result (Took before (order_text scene acts) after)
  pub prefix : TookPrefix before (order_text scene acts) after

-- the same, but where the call succeeded the end of the text is on the page still
pub record WroteAllBut {T E : Type 0} (scene : Scene) (limits page : List ℕ) (before after : Option (List ℕ)) (result : Result T E) : Type 0 where
  pub acts : List Act
  pub is_order : IsFinishedOrder scene limits acts
  pub all : OnOk result (TookAllBut before (order_text scene acts) page after)
  pub prefix : TookPrefix before (order_text scene acts) after
