use Rattle.app_turn.proofs.Acts.{finished-iff, out_pending}
use Rattle.app_turn.proofs.machine.AppMachine.finished.Goals as goal

pub all_put-requires : goal.all_put-requires
all_put-requires c = rw (c.deref.ensures.value, c.deref-then-self.ensures.value) (out_pending _ _ c.self.invariant)

pub returns-then-self : goal.returns-then-self
returns-then-self c = rw (← c.self.view_is) (finished-iff _ _ c.self.invariant c.if-self.true c.all_put.result (rw (c.deref.ensures.value, c.deref-then-self.ensures.value) at c.all_put.ensures))
