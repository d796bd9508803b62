use Rattle.std.proofs.Common.{refl}
use Rattle.music_setup.proofs.apps.are_few.Goals as goal

pub returns : goal.returns
returns c = refl
