-- Each part is copied.
use Rattle.scene_model.proofs.scene.SceneTryCopy.copy.Goals as goal

pub returns : goal.returns
returns c = rw (c.in_ok-apps.ensures, c.in_ok-links.ensures)
