use Rattle.std.proofs.Common.{sym, ◌∙◌, arith}
use Rattle.index_maps.proofs.Ranges.{base_below, position_within, position_outside}
use Rattle.index_maps.proofs.span.Span.local_of.Goals as goal

pub overflow_sub-result : goal.overflow_sub-result
overflow_sub-result c = omega (arith, c.base.ensures.base, base_below c.args.self.base c.args.self.size c.args.global (sym c.holds.ensures ∙ c.if-holds.true))

pub returns-then-holds-clause-place : goal.returns-then-holds-clause-place
returns-then-holds-clause-place c = rw c.base.ensures.base (position_within c.args.self.base c.args.self.size c.args.global (sym c.holds.ensures ∙ c.if-holds.true))

pub returns-else-holds-clause-place : goal.returns-else-holds-clause-place
returns-else-holds-clause-place c = position_outside c.args.self.base c.args.self.size c.args.global (sym c.holds.ensures ∙ c.if-holds.false)
