use Rattle.std.proofs.Common.{◌≡◌, ◌∙◌, arith, sym, true, false}
use Rattle.std.proofs.lemmas.Bool.{le-ltb}
use Rattle.app_turn.proofs.Acts.{into_taken, no_step, not_taken, out_pending, runs-iff}
use Rattle.app_turn.proofs.machine.AppMachine.wants_run.Goals.{then-self, else-self}
use Rattle.app_turn.proofs.machine.AppMachine.wants_run.Goals as goal

pub all_taken-requires-clause-taken : goal.all_taken-requires-clause-taken
all_taken-requires-clause-taken c = rw (c.deref.ensures.value, c.deref-then-self.ensures.value) (into_taken _ _ c.self.invariant)

pub all_put-requires : goal.all_put-requires
all_put-requires c = rw (c.deref-then-all_taken.ensures.value, c.deref-then-all_taken-2.ensures.value) (out_pending _ _ c.self.invariant)

pub returns-then-all_taken : goal.returns-then-all_taken
returns-then-all_taken c = elim c.if-self.branch [
  | then-self w ↦ rw (← c.self.view_is)
      (runs-iff _ _ c.self.invariant w.if-self.true w.all_taken.result c.all_put.result (sym w.value-is ∙ c.if-all_taken.true)
      (rw (w.deref.ensures.value, w.deref-then-self.ensures.value, w.deref-then-self-2.ensures.value) at w.all_taken.ensures)
      (rw (c.deref-then-all_taken.ensures.value, c.deref-then-all_taken-2.ensures.value) at c.all_put.ensures))
  | else-self w ↦ let bad : true ≡ false = sym c.if-all_taken.true ∙ w.value-is ∙ le-ltb c.self.inside.ran c.self.inside.last (omega (arith, w.if-self.false)) in cc
]

pub returns-else-all_taken : goal.returns-else-all_taken
returns-else-all_taken c = elim c.if-self.branch [
  | then-self w ↦ rw (← c.self.view_is)
      (not_taken _ _ c.self.invariant w.all_taken.result c.if-self.value (sym w.value-is ∙ c.if-all_taken.false) c.if-all_taken.false
      (rw (w.deref.ensures.value, w.deref-then-self.ensures.value, w.deref-then-self-2.ensures.value) at w.all_taken.ensures))
  | else-self w ↦ rw (← c.self.view_is) (no_step _ _ c.self.invariant c.if-self.value c.if-all_taken.false (λ less. omega (arith, w.if-self.false, less)))
]
