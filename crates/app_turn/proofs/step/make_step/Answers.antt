use Rattle.scene_model.specs.Scenes.{app_at}
use Rattle.scene_model.proofs.Faultless.{app_is}
use Rattle.app_turn.proofs.Moves.{can_turn}
use Rattle.app_turn.proofs.step.make_step.Goals as goal

pub fill_outputs-requires-clause-can : goal.fill_outputs-requires-clause-can
fill_outputs-requires-clause-can c = rw (c.as_slice-rules.ensures, c.as_slice-ports.ensures, c.app-decl.ensures)
    (can_turn (app_at c.args.scene.now c.args.app) (app_is c.args.scene.now c.requires.faultless c.args.app c.requires.app))
