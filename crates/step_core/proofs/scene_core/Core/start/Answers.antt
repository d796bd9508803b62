use Rattle.std.proofs.Common.{◌≡◌, ◌∙◌, List, [], ap, replicate, length}
use Rattle.std.specs.Arc.{arc_value}
use Rattle.scene_model.specs.declared.row.Row.{Row}
use Rattle.run_logs.specs.Merging.{HeldRows}
use Rattle.step_core.proofs.Opening.{started_core, started_view}
use Rattle.step_core.proofs.scene_core.Core.start.Goals as goal

pub invariant_of-result : goal.invariant_of-result
invariant_of-result c =
    let same : arc_value c.in_ok-scene.scene ≡ c.args.scene.now = c.in_ok-scene.ensures.ok ∙ c.in_ok-copy.ensures in
    let rings = rw (c.deref.ensures, c.deref-2.ensures.value) at c.in_ok-rings.ensures in
    let count : c.len-apps.result ≡ length (arc_value c.in_ok-scene.scene).apps = rw c.deref-3.ensures at c.len-apps.ensures in
    let held = ap (λ (h : HeldRows). h.held) c.in_ok-rows.ensures ∙ ap (λ n. replicate {A = List Row} n []) count in
    let limits = rw c.deref-4.ensures.value at c.in_ok-limits.ensures in
    let none = c.in_ok-released.ensures ∙ ap (λ n. replicate n 0) count in
    started_core c.args.scene.now (arc_value c.in_ok-scene.scene) same c.args.plan.now.limits.items c.in_ok-limits.limits.items limits c.requires.faultless (c.args.plan.now.potentials.items, c.requires.fits.fits) c.in_ok-machines.machines.items c.in_ok-machines.ensures c.in_ok-released.released.items none c.in_ok-rings.rings.items c.in_ok-rows.rows.held rings held

pub returns : goal.returns
returns c =
    let same : arc_value c.in_ok-scene.scene ≡ c.args.scene.now = c.in_ok-scene.ensures.ok ∙ c.in_ok-copy.ensures in
    let count : c.len-apps.result ≡ length (arc_value c.in_ok-scene.scene).apps = rw c.deref-3.ensures at c.len-apps.ensures in
    let limits = rw c.deref-4.ensures.value at c.in_ok-limits.ensures in
    let none = c.in_ok-released.ensures ∙ ap (λ n. replicate n 0) count in
    started_view c.args.scene.now (arc_value c.in_ok-scene.scene) same c.args.plan.now.limits.items c.in_ok-limits.limits.items limits c.requires.faultless (c.args.plan.now.potentials.items, c.requires.fits.fits) c.in_ok-machines.machines.items c.in_ok-machines.ensures c.in_ok-released.released.items none
