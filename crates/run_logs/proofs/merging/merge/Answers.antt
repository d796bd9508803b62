use Rattle.std.proofs.Common.{◌≡◌, sym, subst, true}
use Rattle.run_logs.specs.Merging.{begins_from, held_by, rows_of}
use Rattle.run_logs.proofs.Nexts.{all_begin_from, all_begin_later}
use Rattle.run_logs.proofs.Merged.{all_merged}
use Rattle.run_logs.proofs.merging.merge.Goals as goal

pub move_clock-clock-requires-clause-first : goal.move_clock-clock-requires-clause-first
move_clock-clock-requires-clause-first c i =
    let held = held_by c.loop-clock.queues in
    subst (λ clock. begins_from clock (rows_of held i) ≡ true) (sym c.loop-clock.invariant.clock) (all_begin_from c.args.least held i)

pub returns-clause-released : goal.returns-clause-released
returns-clause-released c =
    (all_merged _ _ _ _ _ (all_begin_later c.args.least c.loop-clock.clock (held_by c.loop-clock.queues) c.loop-clock.invariant.clock c.loop-clock-test.false) c.loop-clock.invariant.so_far).released

pub returns-clause-kept : goal.returns-clause-kept
returns-clause-kept c =
    (all_merged _ _ _ _ _ (all_begin_later c.args.least c.loop-clock.clock (held_by c.loop-clock.queues) c.loop-clock.invariant.clock c.loop-clock-test.false) c.loop-clock.invariant.so_far).kept
