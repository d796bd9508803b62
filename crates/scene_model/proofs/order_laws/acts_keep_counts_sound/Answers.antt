use Rattle.scene_model.proofs.Sound.{after_act, opening_sound, lawful_sound}
use Rattle.scene_model.proofs.order_laws.acts_keep_counts_sound.Goals as goal

pub returns-clause-opening : goal.returns-clause-opening
returns-clause-opening c scene limits = opening_sound scene limits

pub returns-clause-acts : goal.returns-clause-acts
returns-clause-acts c scene limits s act sound can = after_act scene limits s sound act can

pub returns-clause-orders : goal.returns-clause-orders
returns-clause-orders c scene limits acts lawful = lawful_sound scene limits acts lawful.1
