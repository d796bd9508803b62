use Rattle.std.proofs.Common.{◌≡◌, ◌∙◌, [], ℕ, true, List, map, ap, sym, length, vec_len, arith}
use Rattle.run_logs.specs.Merging.{AreQueues, HeldRows, begins_from, held_by, rows_of}
use Rattle.run_logs.proofs.Held.{queues_left, written_back}
use Rattle.run_logs.proofs.Nexts.{all_begin_later}
use Rattle.run_logs.proofs.Merged.{IsMerged, all_merged, none_merged}
use Rattle.run_logs.proofs.merging.RowMerger.release.Goals as goal

-- nothing is released where no row is below `least`
nothing_merged : (spare least : ℕ) (held : HeldRows) (queues first : List _) → held ≡ record { held = held_by first; spare = spare } → queues ≡ first → AreQueues spare first
    → ((i : ℕ) → begins_from least (rows_of (held_by queues) i) ≡ true) → IsMerged least held.held held.held [] []
nothing_merged spare least held queues first view is are past =
    rw (view, ← is) (all_merged least (held_by queues) (held_by queues) [] [] past (none_merged least (held_by queues) [] (rw is are.rows)))

pub returns-then-least_clock-least-clause-released : goal.returns-then-least_clock-least-clause-released
returns-then-least_clock-least-clause-released c =
    let past = all_begin_later c.least.inside.0 c.least_clock.result (held_by c.deref.result.now) c.least_clock.ensures (omega (arith, c.if-least_clock-least.true)) in
    let merged = nothing_merged c.self.inside.spare c.least.inside.0 c.args.self.now c.deref.result.now c.self.inside.queues.items (sym c.self.view_is) c.deref.ensures.value c.self.invariant past in
    rw (← c.least.view_is) (c.new.ensures ∙ merged.released)

pub returns-then-least_clock-least-clause-kept : goal.returns-then-least_clock-least-clause-kept
returns-then-least_clock-least-clause-kept c =
    let past = all_begin_later c.least.inside.0 c.least_clock.result (held_by c.deref.result.now) c.least_clock.ensures (omega (arith, c.if-least_clock-least.true)) in
    let merged = nothing_merged c.self.inside.spare c.least.inside.0 c.args.self.now c.deref.result.now c.self.inside.queues.items (sym c.self.view_is) c.deref.ensures.value c.self.invariant past in
    rw (← c.least.view_is) merged.kept

pub invariant_of-self : goal.invariant_of-self
invariant_of-self c =
    let queues = c.self.inside.queues.items in
    let after = c.merge.new.queues in
    let was : length queues ≡ vec_len c.self.inside.queues = ap length (sym c.deref_mut.ensures.value) ∙ c.deref_mut.ensures.len in
    let is : length after ≡ vec_len c.self.inside.queues = c.merge.auto.queues ∙ c.deref_mut.ensures.len in
    rw (written_back (vec_len c.self.inside.queues) queues after was is)
    (queues_left c.self.inside.spare queues after c.self.invariant (c.merge.ensures.spare ∙ ap (map (λ queue. queue.spare)) c.deref_mut.ensures.value) c.merge.ensures.rows)
