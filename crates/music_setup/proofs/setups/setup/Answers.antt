use Rattle.music_setup.proofs.HandedOn.{IfErr-and, IfErr-weaker, IfOk-weaker}
use Rattle.music_setup.proofs.OfSetups.{spelled_fault, text_fault}
use Rattle.music_setup.proofs.setups.setup.Goals as goal

pub returns-in_err-config-clause-fault : goal.returns-in_err-config-clause-fault
returns-in_err-config-clause-fault c =
    IfErr-and _ _ c.from_residual.result c.from_residual.ensures.1 (λ e is. rw is (text_fault c.args.bytes.now c.in_err-config.field-0.0 c.in_err-config.ensures.faulty))

pub returns-clause-scene : goal.returns-clause-scene
returns-clause-scene c = IfOk-weaker _ _ c.setup_config.result c.setup_config.ensures.scene (λ ready is. (c.in_ok-config.config, c.in_ok-config.ensures.spelled, is))

pub returns-clause-sound : goal.returns-clause-sound
returns-clause-sound c = c.setup_config.ensures.sound

pub returns-clause-fault : goal.returns-clause-fault
returns-clause-fault c =
    IfErr-weaker _ _ c.setup_config.result c.setup_config.ensures.fault (λ fault is. spelled_fault c.args.bytes.now c.in_ok-config.config fault c.in_ok-config.ensures.spelled is)
