use Rattle.std.proofs.Common.{◌≡◌, ◌≤◌, ◌+◌, map, length, vec_len, vec_capacity}
use Rattle.std.specs.List.{flat_map}
use Rattle.run_logs.specs.Merging.{held_by}
use Rattle.run_logs.proofs.Merged.{IsMergedTo}
use Rattle.run_logs.proofs.Nexts.{IsPassed}
use Rattle.run_logs.proofs.merging.move_clock.Given as goal

abbrev pub invariant-loop-queue : goal.invariant-loop-queue
invariant-loop-queue l = record {
  so_far : IsMergedTo l.least (held_by l.initial.queue-items) (held_by l.queue-items) l.initial.released.items l.released.items;
  passed : IsPassed l.clock l.least l.queue-index l.next (held_by l.queue-items);
  spare : map (λ queue. queue.spare) l.queue-items ≡ map (λ queue. queue.spare) l.initial.queue-items;
  room : vec_len l.released + length (flat_map (λ rows. rows) (held_by l.queue-items)) ≤ vec_capacity l.released;
}
