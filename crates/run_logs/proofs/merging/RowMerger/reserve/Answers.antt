use Rattle.std.proofs.Common.{◌≡◌, ◌∙◌, ap, sym, length, vec_len}
use Rattle.run_logs.specs.Merging.{held_by}
use Rattle.run_logs.proofs.Held.{no_room_needed, room_for, written_back}
use Rattle.run_logs.proofs.merging.RowMerger.reserve.Goals as goal

pub invariant_of-self : goal.invariant_of-self
invariant_of-self c =
    let queues = c.self.inside.queues.items in
    let after = c.make_room.new.queues in
    let was : length queues ≡ vec_len c.self.inside.queues = ap length (sym c.deref_mut.ensures.value) ∙ c.deref_mut.ensures.len in
    let is : length after ≡ vec_len c.self.inside.queues = c.make_room.auto.queues ∙ c.deref_mut.ensures.len in
    let held : held_by after ≡ held_by queues = c.make_room.ensures.held ∙ ap held_by c.deref_mut.ensures.value in
    rw (written_back (vec_len c.self.inside.queues) queues after was is, c.if-self-eq0.true)
    (room_for c.self.inside.spare 0 queues after held c.self.invariant (no_room_needed after))
