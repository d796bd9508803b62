use Rattle.std.proofs.Common.{◌≡◌, ◌≤◌, ◌+◌, ◌-◌, map, length, vec_len, vec_capacity}
use Rattle.std.specs.List.{flat_map}
use Rattle.run_logs.specs.Merging.{held_by, least_front}
use Rattle.run_logs.proofs.Merged.{IsMergedTo}
use Rattle.run_logs.proofs.merging.merge.Given as goal

abbrev pub invariant-loop-clock : goal.invariant-loop-clock
invariant-loop-clock l = record {
  so_far : IsMergedTo l.least (held_by l.initial.queues) (held_by l.queues) l.initial.released.items l.released.items;
  spare : map (λ queue. queue.spare) l.queues ≡ map (λ queue. queue.spare) l.initial.queues;
  room : vec_len l.released + length (flat_map (λ rows. rows) (held_by l.queues)) ≤ vec_capacity l.released;
  clock : l.clock ≡ least_front l.least (held_by l.queues);
}

abbrev pub decreases-loop-clock : goal.decreases-loop-clock
decreases-loop-clock l = l.least - l.clock
