-- The orders of rows and of arrivals are total.
use Rattle.std.specs.Cmp.{IsTotalOrder}
use Rattle.std.proofs.lemmas.Cmp.{nat_cmp_total, on_total, then_total}
use Rattle.music_base.specs.Items.{time_of}
use Rattle.scene_model.specs.Logs.{row_cmp}
use Rattle.scene_model.specs.Tables.{Sent, global_of, sent_cmp}
use Rattle.scene_model.specs.declared.row.Row.{Row}

pub row_cmp-total : IsTotalOrder row_cmp
row_cmp-total =
    then_total (on_total (λ (r : Row). r.clock) nat_cmp_total)
    (then_total (on_total (λ (r : Row). r.app) nat_cmp_total)
    (then_total (on_total (λ (r : Row). r.port) nat_cmp_total) (on_total (λ (r : Row). r.rank) nat_cmp_total)))

pub sent_cmp-total : IsTotalOrder sent_cmp
sent_cmp-total =
    then_total (on_total (λ (s : Sent). time_of s.item) nat_cmp_total)
    (then_total (on_total (λ (s : Sent). global_of s.item) nat_cmp_total)
    (then_total (on_total (λ (s : Sent). s.app) nat_cmp_total) (on_total (λ (s : Sent). s.port) nat_cmp_total)))
