use Rattle.std.proofs.Common.{refl}
use Rattle.scene_model.proofs.scene.LinkTryCopy.copy.Goals as goal

pub returns : goal.returns
returns c = refl
