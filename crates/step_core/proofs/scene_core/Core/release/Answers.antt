use Rattle.std.proofs.Common.{◌∙◌, ℕ, ap, subst, sym, List, length}
use Rattle.std.specs.Arc.{arc_value}
use Rattle.run_logs.proofs.Held.{written_back}
use Rattle.step_core.specs.Cores.{Released, counts_of}
use Rattle.step_core.proofs.NextClocks.{kept_core, was_released}
use Rattle.step_core.proofs.scene_core.Core.release.Goals as goal

pub invariant_of-self-2 : goal.invariant_of-self-2
invariant_of-self-2 c =
    let next = rw c.deref.ensures.value at c.next_clock-least.ensures in
    let was = ap (λ (l : List ℕ). length l) (sym c.deref_mut.ensures.value) ∙ c.deref_mut.ensures.len in
    let is = c.count_before.ensures.counted ∙ c.deref_mut.ensures.len in
    let counted = c.count_before.ensures.counted ∙ ap (λ (l : List ℕ). length l) c.deref_mut.ensures.value in
    let each = rw (c.deref-2.ensures, c.deref_mut.ensures.value) at c.count_before.ensures.each in
    rw (written_back c.self.inside.released.len c.self.inside.released.items c.count_before.new.counts was is)
    (kept_core _ _ _ _ _ _ _ c.self.invariant c.next_clock-least.result next c.count_before.new.counts counted each c.release.new.self.held c.in_ok-rows.ensures.kept)

pub returns : goal.returns
returns c =
    let scene = arc_value c.self.inside.scene in
    let limits = c.self.inside.limits.items in
    let counts = counts_of scene c.self.inside.machines.items in
    let next = rw c.deref.ensures.value at c.next_clock-least.ensures in
    let was = ap (λ (l : List ℕ). length l) (sym c.deref_mut.ensures.value) ∙ c.deref_mut.ensures.len in
    let is = c.count_before.ensures.counted ∙ c.deref_mut.ensures.len in
    let counted = c.count_before.ensures.counted ∙ ap (λ (l : List ℕ). length l) c.deref_mut.ensures.value in
    let each = rw (c.deref-2.ensures, c.deref_mut.ensures.value) at c.count_before.ensures.each in
    let F : List ℕ → Type 0 = λ l. Released (record { scene = scene; limits = limits; counts = counts; released = c.self.inside.released.items }) c.in_ok-rows.rows (record { scene = scene; limits = limits; counts = counts; released = l }) in
    rw (← c.self.view_is)
    (subst F (sym (written_back c.self.inside.released.len c.self.inside.released.items c.count_before.new.counts was is))
    (was_released _ _ _ _ _ _ _ c.self.invariant c.next_clock-least.result next c.count_before.new.counts counted each c.in_ok-rows.rows c.in_ok-rows.ensures.released))
