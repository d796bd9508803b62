use Rattle.music_base.proofs.Sorting.{sorted_is_in_order}
use Rattle.scene_model.specs.Logs.{row_cmp}
use Rattle.scene_model.specs.Tables.{sent_cmp}
use Rattle.scene_model.proofs.TotalOrders.{row_cmp-total, sent_cmp-total}
use Rattle.scene_model.proofs.table_laws.stable_sorts_put_in_order.Goals as goal

pub returns : goal.returns
returns c = record {
  rows = sorted_is_in_order row_cmp row_cmp-total;
  sent = sorted_is_in_order sent_cmp sent_cmp-total;
}
