use Rattle.std.proofs.Common.{ap, ◌∙◌}
use Rattle.std.specs.Arc.{arc_value}
use Rattle.scene_model.specs.Orders.{Counts}
use Rattle.step_core.proofs.Runs.{not_run, rows_fit, run_next}
use Rattle.step_core.proofs.Results.{on_err}
use Rattle.step_core.proofs.scene_core.Core.run.Goals as goal

pub invariant_of-self : goal.invariant_of-self
invariant_of-self c = rw c.in_err-reserve.ensures.held c.self.invariant

pub returns-in_err-rows-clause-err : goal.returns-in_err-rows-clause-err
returns-in_err-rows-clause-err c =
    let can = rw (← c.self.view_is, ← c.app.view_is) at c.requires in
    let kept = not_run _ _ _ _ _ _ _ c.self.invariant c.app.inside.0 c.index_mut-machine.result.now can.app c.index_mut-machine.ensures.value c.run.new.self c.in_err-rows.ensures in
    on_err _ _ (ap (λ (t : Counts). record { scene = arc_value c.self.inside.scene; limits = c.self.inside.limits.items; counts = t; released = c.self.inside.released.items }) kept.1 ∙ c.self.view_is)

pub admit-requires-clause-rows : goal.admit-requires-clause-rows
admit-requires-clause-rows c =
    let can = rw (← c.self.view_is, ← c.app.view_is) at c.requires in
    rw (c.in_ok-reserve.ensures.held, ← c.app.view_is) (rows_fit _ _ _ _ _ _ _ c.self.invariant c.app.inside.0 c.index_mut-machine.result.now can.app c.index_mut-machine.ensures.value can c.run.new.self c.in_ok-rows.rows c.in_ok-rows.ensures)

pub invariant_of-self-2 : goal.invariant_of-self-2
invariant_of-self-2 c =
    let can = rw (← c.self.view_is, ← c.app.view_is) at c.requires in
    let held = rw (c.in_ok-reserve.ensures.held, ← c.app.view_is) at c.admit.ensures.held in
    (run_next _ _ _ _ _ _ _ c.self.invariant c.app.inside.0 c.index_mut-machine.result.now can.app c.index_mut-machine.ensures.value can c.run.new.self c.in_ok-rows.rows c.in_ok-rows.ensures c.admit.new.self.held held).0

pub returns-clause-ok : goal.returns-clause-ok
returns-clause-ok c =
    let can = rw (← c.self.view_is, ← c.app.view_is) at c.requires in
    let held = rw (c.in_ok-reserve.ensures.held, ← c.app.view_is) at c.admit.ensures.held in
    let done = run_next _ _ _ _ _ _ _ c.self.invariant c.app.inside.0 c.index_mut-machine.result.now can.app c.index_mut-machine.ensures.value can c.run.new.self c.in_ok-rows.rows c.in_ok-rows.ensures c.admit.new.self.held held in
    rw (← c.self.view_is, ← c.app.view_is) (ap (λ (t : Counts). record { scene = arc_value c.self.inside.scene; limits = c.self.inside.limits.items; counts = t; released = c.self.inside.released.items }) done.1)
