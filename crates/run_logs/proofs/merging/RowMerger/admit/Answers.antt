use Rattle.std.proofs.Common.{◌≡◌, ◌++◌, ◌<◌, ap, sym, length}
use Rattle.run_logs.specs.Merging.{AreRowsOf, HeldRows, held_by, rows_of}
use Rattle.run_logs.proofs.Held.{queues_admitted, rows_admitted}
use Rattle.run_logs.proofs.merging.RowMerger.admit.Goals as goal

pub invariant_of-self : goal.invariant_of-self
invariant_of-self c =
    let queues = c.self.inside.queues.items in
    let app = c.app.inside.0 in
    let held : c.args.self.now.held ≡ held_by queues = ap (λ (h : HeldRows). h.held) (sym c.self.view_is) in
    let place : c.args.app ≡ app = sym c.app.view_is in
    let within : app < length (held_by queues) = rw (held, place) at c.requires.app in
    let rows : AreRowsOf app (rows_of (held_by queues) app ++ c.args.rows) = rw (held, place) at c.requires.rows in
    rw c.admit.ensures (queues_admitted c.self.inside.spare queues c.self.invariant app within c.index_mut.result.now c.index_mut.ensures.value c.args.rows rows)

pub returns-clause-held : goal.returns-clause-held
returns-clause-held c =
    let queues = c.self.inside.queues.items in
    let app = c.app.inside.0 in
    let held : c.args.self.now.held ≡ held_by queues = ap (λ (h : HeldRows). h.held) (sym c.self.view_is) in
    let place : c.args.app ≡ app = sym c.app.view_is in
    let within : app < length (held_by queues) = rw (held, place) at c.requires.app in
    rw (c.admit.ensures, held, place) (rows_admitted c.self.inside.spare queues c.self.invariant app within c.index_mut.result.now c.index_mut.ensures.value c.args.rows)
