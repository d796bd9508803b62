use Rattle.std.proofs.Common.{rules}
use Rattle.std.proofs.lemmas.Result.{on_ok_weaker}
use Rattle.music_base.proofs.Sorting.{sorted_by}
use Rattle.port_inbox.specs.Gathering.{found_cmp}
use Rattle.port_inbox.proofs.OverLines.{found_cmp-total}
use Rattle.port_inbox.proofs.finding.sort.Goals as goal

pub returns : goal.returns
returns c = on_ok_weaker c.sort_by.result (λ sorted. sorted_by found_cmp found_cmp-total _ _ _ _ sorted c.sort_by.ensures.stable (λ a r f' k. search rules)) c.sort_by.ensures.sorted
