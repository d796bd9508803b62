use Rattle.std.proofs.Common.{rules}
use Rattle.port_inbox.specs.Gathering.{said_cmp}
use Rattle.port_inbox.proofs.InOrder.{in_order_answer}
use Rattle.port_inbox.proofs.saying.are_in_order.Goals as goal

pub returns : goal.returns
returns c = in_order_answer said_cmp _ _ _ _ c.is_sorted_by.ensures.cases (λ a r f' k. search rules)
