use Rattle.std.proofs.Common.{◌≡◌, ◌<◌, ◌∙◌, [], append-nil, length, length-append, slice_set, refl, sym, ap, arith}
use Rattle.std.proofs.lemmas.List.{length-map, map-set}
use Rattle.run_logs.specs.Merging.{AreMoved, held_by, rows_of}
use Rattle.run_logs.proofs.Nexts.{none_passed, rows_in}
use Rattle.run_logs.proofs.Merged.{fewer_held, none_merged, room_same, step_merged, step_passed}
use Rattle.run_logs.proofs.merging.move_clock.Goals as goal

pub loop-queue-init : goal.loop-queue-init
loop-queue-init c = record { so_far = none_merged _ _ _ c.requires.rows; passed = none_passed _ _ _ c.requires.below c.requires.first; spare = refl; room = c.requires.room }

pub move_step-requires : goal.move_step-requires
move_step-requires c =
    let queues = c.loop-queue.queue-items in
    let held = held_by queues in
    let place = c.loop-queue.queue-index in
    let there : place < length queues = omega (arith, c.loop-queue-test.true, c.loop-queue.auto.queue-items) in
    let at = rows_in queues place c.queue-item.result there in
    omega (arith, ap length at, c.loop-queue.invariant.room, fewer_held held place (rows_of held place) [] (rw length-map there) (sym (append-nil (rows_of held place))))

pub loop-queue-preserved : goal.loop-queue-preserved
loop-queue-preserved c =
    let queues = c.loop-queue.queue-items in
    let held = held_by queues in
    let place = c.loop-queue.queue-index in
    let after = c.move_step.new.self in
    let there : place < length queues = omega (arith, c.loop-queue-test.true, c.loop-queue.auto.queue-items) in
    let within : place < length held = rw length-map there in
    let at = rows_in queues place c.queue-item.result there in
    let moved : AreMoved c.args.clock (rows_of held place) after.rows c.loop-queue.released.items c.move_step.new.to.items = rw at c.move_step.ensures.moved in
    let set : held_by (slice_set queues place after) ≡ slice_set held place after.rows = map-set (λ queue. queue.rows) queues place after in
    let passed = c.loop-queue.invariant.passed in
    let so_far = c.loop-queue.invariant.so_far in
    record {
      so_far = rw set (step_merged c.args.least place c.args.clock c.loop-queue.next _ held after.rows _ _ _ c.requires.below within passed moved so_far);
      passed = rw (set, c.lower-next.ensures) (step_passed c.args.least place c.args.clock c.loop-queue.next held after.rows _ _ within (so_far.rows place) moved c.move_step.ensures.left passed);
      spare = room_same queues place after c.queue-item.result c.move_step.ensures.spare ∙ c.loop-queue.invariant.spare;
      room = rw set (omega (arith, c.loop-queue.invariant.room, fewer_held held place moved.step after.rows within moved.split, ap length moved.moved, length-append c.loop-queue.released.items moved.step, c.move_step.ensures.room));
    }
