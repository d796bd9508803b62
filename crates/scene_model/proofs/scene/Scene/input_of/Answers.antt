use Rattle.scene_model.proofs.Faultless.{connection_is}
use Rattle.scene_model.proofs.scene.Scene.input_of.Goals as goal

pub port-requires : goal.port-requires
port-requires c = rw (c.receiver_of.ensures, c.link.ensures) (connection_is c.args.self.now c.requires.scene c.args.link c.requires.link).to_port

pub returns : goal.returns
returns c = rw (c.port.ensures, c.receiver_of.ensures, c.link.ensures)
