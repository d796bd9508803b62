use Rattle.std.proofs.Common.{◌≡◌, ◌<◌, ℕ, min}
use Rattle.std.specs.Prelude.{slice_index}
use Rattle.act_orders.proofs.own_links.all_put.Given as goal

abbrev pub invariant-loop-place : goal.invariant-loop-place
invariant-loop-place l = (i : ℕ) → i < l.place → slice_index l.put (slice_index l.out i) ≡ min l.ran (slice_index l.most (slice_index l.out i))
