use Rattle.music_setup.proofs.HandedOn.{IfErr-and}
use Rattle.music_setup.proofs.OfConfig.{fault_of_config}
use Rattle.music_setup.proofs.OfSetups.{plan_fault, plan_has_text, scene_fault}
use Rattle.music_setup.proofs.setups.setup_config.Goals as goal

pub returns-in_err-scene-clause-fault : goal.returns-in_err-scene-clause-fault
returns-in_err-scene-clause-fault c =
    IfErr-and _ _ c.from_residual.result c.from_residual.ensures.1 (λ e is. rw is (scene_fault c.args.config.now c.in_err-scene.field-0.0 c.in_err-scene.ensures.fault))

pub returns-in_err-scene-clause-has_text : goal.returns-in_err-scene-clause-has_text
returns-in_err-scene-clause-has_text c =
    IfErr-and _ _ c.from_residual.result c.from_residual.ensures.1 (λ e is. rw is (fault_of_config c.args.config.now c.in_err-scene.field-0.0 c.in_err-scene.ensures.fault))

pub returns-in_err-plan-clause-fault : goal.returns-in_err-plan-clause-fault
returns-in_err-plan-clause-fault c =
    IfErr-and _ _ c.from_residual-in_err-plan.result c.from_residual-in_err-plan.ensures.1
    (λ e is. rw is (plan_fault c.args.config.now c.in_ok-scene.scene c.in_err-plan.field-0.0 c.in_ok-scene.ensures.scene c.in_err-plan.ensures.uncovered))

pub returns-in_err-plan-clause-has_text : goal.returns-in_err-plan-clause-has_text
returns-in_err-plan-clause-has_text c =
    IfErr-and _ _ c.from_residual-in_err-plan.result c.from_residual-in_err-plan.ensures.1
    (λ e is. rw is (plan_has_text c.args.config.now c.in_ok-scene.scene c.in_err-plan.field-0.0 c.in_ok-scene.ensures.scene c.in_ok-scene.ensures.faultless c.in_err-plan.ensures.uncovered))

pub returns-clause-scene : goal.returns-clause-scene
returns-clause-scene c = c.in_ok-scene.ensures.scene

pub returns-clause-sound : goal.returns-clause-sound
returns-clause-sound c = record {
  faultless = c.in_ok-scene.ensures.faultless;
  accepted = c.in_ok-plan.ensures.accepted;
  limits = c.in_ok-plan.ensures.limits;
  stated = c.in_ok-plan.ensures.stated;
  fits = c.in_ok-plan.ensures.fits;
}
