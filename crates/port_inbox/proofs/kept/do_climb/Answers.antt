use Rattle.std.proofs.Common.{rules}
use Rattle.port_inbox.proofs.Climbing.{climbs_answer}
use Rattle.port_inbox.proofs.kept.do_climb.Goals as goal

pub returns : goal.returns
returns c = climbs_answer _ _ _ _ c.is_sorted_by.ensures.cases (λ a r f' k. search rules)
