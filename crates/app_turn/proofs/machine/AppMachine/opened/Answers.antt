use Rattle.std.proofs.Common.{◌≡◌, ◌∙◌, ap, arith, replicate, None, length, Option, ℕ}
use Rattle.std.specs.Arc.{arc_value}
use Rattle.music_base.specs.declared.item.Block.{Block}
use Rattle.music_base.specs.Clocks.{steps_until}
use Rattle.scene_model.specs.Clocks.{span, steps, tick}
use Rattle.scene_model.specs.declared.scene.AppDecl.{AppDecl}
use Rattle.app_turn.proofs.Openings.{into_of_small, most_are, most_count, needs_are, opened_as, started_as, zero_count}
use Rattle.app_turn.proofs.Paces.{paces_bounds, paces_small}
use Rattle.app_turn.proofs.machine.AppMachine.opened.Goals as goal

pub paces_of-requires-clause-links : goal.paces_of-requires-clause-links
paces_of-requires-clause-links c =
    rw (c.deref-4.ensures, c.deref-5.ensures.value) (into_of_small (arc_value c.args.scene) c.args.app c.in_ok-into.into.items (rw c.deref-3.ensures at c.in_ok-into.ensures))

pub need-requires-clause-paces : goal.need-requires-clause-paces
need-requires-clause-paces c =
    let scene = arc_value c.args.scene in
    let paced = rw (c.deref-4.ensures, c.deref-5.ensures.value) at c.in_ok-paces.ensures in
    rw (c.deref-7.ensures.value, paced) (paces_bounds scene c.in_ok-into.into.items c.requires.faultless (into_of_small scene c.args.app c.in_ok-into.into.items (rw c.deref-3.ensures at c.in_ok-into.ensures)))

pub need-requires-clause-links : goal.need-requires-clause-links
need-requires-clause-links c =
    let scene = arc_value c.args.scene in
    let small = into_of_small scene c.args.app c.in_ok-into.into.items (rw c.deref-3.ensures at c.in_ok-into.ensures) in
    let count = zero_count c.len-count.result (length (arc_value c.args.scene).links) c.in_ok-needs.needs.items c.in_ok-needs.ensures (rw c.deref.ensures at c.len-count.ensures) in
    let paced = rw (c.deref-4.ensures, c.deref-5.ensures.value) at c.in_ok-paces.ensures in
    rw (c.deref-7.ensures.value, paced) (paces_small scene c.in_ok-into.into.items (length c.in_ok-needs.needs.items) (λ i l. let lt = small i l in omega (arith, lt, count)))

pub invariant_of-result : goal.invariant_of-result
unfolding steps tick
invariant_of-result c =
    let scene = arc_value c.args.scene in
    let count : c.len-count.result ≡ length (arc_value c.args.scene).links = rw c.deref.ensures at c.len-count.ensures in
    let comes_in = rw c.deref-3.ensures at c.in_ok-into.ensures in
    let paced = rw (c.deref-4.ensures, c.deref-5.ensures.value) at c.in_ok-paces.ensures in
    let goes_out = rw c.deref-6.ensures at c.in_ok-out.ensures in
    let needs = needs_are scene c.args.app 0 c.in_ok-into.into.items c.need.new.needs.items comes_in (c.need.ensures.each scene c.in_ok-into.into.items (c.deref-7.ensures.value ∙ paced)) in
    let most = rw c.deref-8.ensures at c.in_ok-most.ensures in
    let placed = rw c.deref-9.ensures at c.in_ok-places.ensures in
    let last = c.steps-last.ensures ∙ ap (λ (a : AppDecl). steps_until (span a) a.tick) (rw c.deref-2.ensures at c.app.ensures) in
    opened_as scene c.requires.faultless c.args.app c.requires.app c.args.inboxes.items c.requires.counted c.requires.fresh _ placed _ _ _ _
    (c.in_ok-put.ensures ∙ ap (λ (n : ℕ). replicate n 0) count) (c.in_ok-taken.ensures ∙ ap (λ (n : ℕ). replicate n 0) count) c.requires.state (c.in_ok-pending.ensures ∙ ap (λ (n : ℕ). replicate {A = Option Block} n None) count)
    _ _ _ _ _ _ _ last comes_in paced goes_out (c.need.ensures.count ∙ zero_count _ _ _ c.in_ok-needs.ensures count) needs (most_count scene c.in_ok-most.most.items most) (most_are scene c.args.app c.in_ok-most.most.items most) c.requires.planned

pub returns : goal.returns
returns c =
    let scene = arc_value c.args.scene in
    let count : c.len-count.result ≡ length (arc_value c.args.scene).links = rw c.deref.ensures at c.len-count.ensures in
    let placed = rw c.deref-9.ensures at c.in_ok-places.ensures in
    started_as scene c.requires.faultless c.args.app c.requires.app c.args.inboxes.items c.requires.counted c.requires.fresh _ placed _ _ _ _
    (c.in_ok-put.ensures ∙ ap (λ (n : ℕ). replicate n 0) count) (c.in_ok-taken.ensures ∙ ap (λ (n : ℕ). replicate n 0) count) c.requires.state (c.in_ok-pending.ensures ∙ ap (λ (n : ℕ). replicate {A = Option Block} n None) count)
