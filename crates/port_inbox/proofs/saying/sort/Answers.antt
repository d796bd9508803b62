use Rattle.std.proofs.Common.{rules}
use Rattle.std.proofs.lemmas.Cmp.{nat_cmp_total, on_total, then_total}
use Rattle.std.specs.Cmp.{IsTotalOrder}
use Rattle.port_inbox.specs.Gathering.{said_cmp}
use Rattle.port_inbox.specs.declared.saying.Said.{Said}
use Rattle.music_base.proofs.Sorting.{sorted_by}
use Rattle.std.proofs.lemmas.Result.{on_ok_weaker}
use Rattle.port_inbox.proofs.saying.sort.Goals as goal

total : IsTotalOrder said_cmp
total = then_total (on_total (λ (s : Said). s.heard.time) nat_cmp_total) (then_total (on_total (λ (s : Said). s.app) nat_cmp_total) (on_total (λ (s : Said). s.port) nat_cmp_total))

pub returns : goal.returns
returns c = on_ok_weaker c.sort_by.result (λ sorted. sorted_by said_cmp total _ _ _ _ sorted c.sort_by.ensures.stable (λ a r f' k. search rules)) c.sort_by.ensures.sorted
