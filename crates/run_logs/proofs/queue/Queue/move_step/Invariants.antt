use Rattle.std.proofs.Common.{◌≡◌, ◌≤◌, ◌+◌, length, vec_len, vec_capacity}
use Rattle.run_logs.specs.Merging.{AreMoved}
use Rattle.run_logs.proofs.queue.Queue.move_step.Given as goal

abbrev pub invariant-loop-self : goal.invariant-loop-self
invariant-loop-self l = record {
  so_far : AreMoved l.clock l.initial.self.rows l.self.rows l.initial.to.items l.to.items;
  spare : l.self.spare ≡ l.initial.self.spare;
  room : vec_len l.to + length l.self.rows ≤ vec_capacity l.to;
  capacity : vec_capacity l.initial.to ≤ vec_capacity l.to;
}

abbrev pub decreases-loop-self : goal.decreases-loop-self
decreases-loop-self l = length l.self.rows
