use Rattle.scene_model.proofs.Faultless.{connection_is}
use Rattle.scene_model.proofs.scene.Scene.output_of.Goals as goal

pub port-requires : goal.port-requires
port-requires c = rw (c.sender_of.ensures, c.link.ensures) (connection_is c.args.self.now c.requires.scene c.args.link c.requires.link).from_port

pub returns : goal.returns
returns c = rw (c.port.ensures, c.sender_of.ensures, c.link.ensures)
