use Rattle.std.proofs.Common.{◌≡◌, ◌++◌}
use Rattle.std.specs.List.{flat_map}
use Rattle.music_base.specs.Numbers.{below}
use Rattle.app_turn.specs.Rows.{rank_rows_of}
use Rattle.app_turn.proofs.by_rank.push_lists.Given as goal

abbrev pub invariant-loop-rank : goal.invariant-loop-rank
invariant-loop-rank l = l.rows ≡ l.initial.rows ++ flat_map (λ r. rank_rows_of l.decl (record { clock = l.clock; app = l.app; port = l.port; rank = r }) l.items) (below l.rank)
