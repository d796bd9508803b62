-- A scene without a fault is well formed.
use Rattle.scene_model.specs.declared.scene.Scene.{Scene}
use Rattle.scene_model.specs.Faults.{IsFaultless}
use Rattle.scene_model.specs.Limits.{most_buffered}
use Rattle.scene_model.specs.Scenes.{sender, link_at}
use Rattle.scene_model.specs.WellFormed.{IsWellFormed}
use Rattle.scene_model.proofs.Faultless.{tick_is, port_is, connection_is, numbers_are}
use Rattle.scene_model.proofs.StatedLimits.{stated-some}

pub well_formed : (scene : Scene) → IsFaultless scene → IsWellFormed scene
well_formed scene faultless = record {
  ticks = λ a app. (tick_is scene faultless a).0;
  senders = λ c link. (connection_is scene faultless c link).from_app;
  receivers = λ c link. (connection_is scene faultless c link).to_app;
  room = λ c link.
      let ends = connection_is scene faultless c link in
      stated-some scene c most_buffered (numbers_are scene faultless c link).buffered (port_is scene faultless (sender scene c) (link_at scene c).from_port ends.from_app ends.from_port).buffered;
}
