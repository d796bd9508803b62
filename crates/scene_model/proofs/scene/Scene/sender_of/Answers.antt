use Rattle.std.proofs.Common.{ap}
use Rattle.scene_model.specs.Scenes.{app_at, sender}
use Rattle.scene_model.proofs.Faultless.{connection_is}
use Rattle.scene_model.proofs.scene.Scene.sender_of.Goals as goal

pub app-requires : goal.app-requires
unfolding sender
app-requires c = rw c.link.ensures (connection_is c.args.self.now c.requires.scene c.args.link c.requires.link).from_app

pub returns : goal.returns
unfolding sender
returns c = rw c.app.ensures (ap (λ link. app_at c.args.self.now link.from_app) c.link.ensures)
