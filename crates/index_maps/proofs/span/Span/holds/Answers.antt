use Rattle.std.proofs.Common.{sym, ◌∙◌}
use Rattle.index_maps.proofs.Ranges.{list_any_range}
use Rattle.index_maps.proofs.span.Span.holds.Goals as goal

pub returns : goal.returns
returns c = rw (c.base.ensures.base, c.base-2.ensures.base, c.size.ensures.size) at c.is_between.ensures ∙ sym (list_any_range c.args.global c.args.self.base c.args.self.size)
