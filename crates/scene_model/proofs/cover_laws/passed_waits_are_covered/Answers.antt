use Rattle.scene_model.proofs.Cycles.{passed_are_covered}
use Rattle.scene_model.proofs.cover_laws.passed_waits_are_covered.Goals as goal

pub returns : goal.returns
returns c = passed_are_covered
