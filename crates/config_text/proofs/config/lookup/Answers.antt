use Rattle.std.proofs.Common.{refl}
use Rattle.config_text.specs.Lookup.{looked_up}
use Rattle.config_text.proofs.config.lookup.Goals as goal

pub returns-in-Some : goal.returns-in-Some
unfolding looked_up
returns-in-Some c = rw (c.pair_at.ensures, ← c.get.ensures, c.in-Some.is) refl

pub returns-in-None : goal.returns-in-None
unfolding looked_up
returns-in-None c = rw (c.pair_at.ensures, ← c.get.ensures, c.in-None.is) c.get-in-None.ensures
