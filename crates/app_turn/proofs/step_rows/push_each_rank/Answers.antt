use Rattle.app_turn.specs.Rows.{rank_rows_of}
use Rattle.app_turn.proofs.RowParts.{flat_more}
use Rattle.app_turn.proofs.step_rows.push_each_rank.Goals as goal

pub loop-rank-preserved : goal.loop-rank-preserved
loop-rank-preserved c =
    flat_more (λ r. rank_rows_of c.args.decl.now (record { clock = c.args.clock; app = c.args.app; port = c.args.port; rank = r }) c.args.items.now)
    c.loop-rank.rank c.args.rows.now c.loop-rank.rows _ c.loop-rank.invariant c.in_ok-push_rank.ensures
