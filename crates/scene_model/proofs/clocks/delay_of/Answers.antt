use Rattle.std.proofs.Common.{refl}
use Rattle.scene_model.specs.Clocks.{delay}
use Rattle.scene_model.proofs.Faultless.{connection_is}
use Rattle.scene_model.proofs.clocks.delay_of.Goals as goal

pub returns-clause-value : goal.returns-clause-value
unfolding delay
returns-clause-value c = rw (c.unwrap_or.ensures, c.input_of.ensures, c.link-own.ensures) refl

pub returns-clause-within : goal.returns-clause-within
returns-clause-within c = rw (returns-clause-value c) (connection_is c.args.scene.now c.requires.scene c.args.link c.requires.link).delay
