-- Each part is copied.
use Rattle.scene_model.proofs.scene.AppDeclTryCopy.copy.Goals as goal

pub returns : goal.returns
returns c = rw (c.in_ok-name.ensures, c.in_ok-ports.ensures, c.in_ok-rules.ensures)
