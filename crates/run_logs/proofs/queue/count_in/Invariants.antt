use Rattle.std.proofs.Common.{◌≡◌, ◌+◌, length}
use Rattle.std.specs.List.{flat_map}
use Rattle.std.specs.VecDeque.Iter.{deque_iter_rest}
use Rattle.run_logs.proofs.queue.count_in.Given as goal

abbrev pub invariant-loop-rows : goal.invariant-loop-rows
invariant-loop-rows l = l.count + length (flat_map (λ rows. rows) (deque_iter_rest l.rows-iterator)) ≡ length (flat_map (λ rows. rows) l.lists.items)
