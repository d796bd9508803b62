use Rattle.std.proofs.Common.{rules}
use Rattle.port_inbox.specs.Gathering.{found_cmp}
use Rattle.port_inbox.proofs.InOrder.{in_order_answer}
use Rattle.port_inbox.proofs.finding.are_in_order.Goals as goal

pub returns : goal.returns
returns c = in_order_answer found_cmp _ _ _ _ c.is_sorted_by.ensures.cases (λ a r f' k. search rules)
