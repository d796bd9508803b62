use Rattle.std.proofs.Common.{sym, ◌∙◌}
use Rattle.index_maps.proofs.Repeats.{repeat_found, rest_at_end, rest_at_start, rest_goes_on}
use Rattle.index_maps.proofs.permuting.repeat_by_pairs.Goals as goal

pub loop-before-init : goal.loop-before-init
loop-before-init c = rest_at_start c.args.list.now

pub returns-then-has_index : goal.returns-then-has_index
returns-then-has_index c =
    repeat_found c.args.list.now c.loop-before.before c.loop-before-test.true c.loop-before.invariant (sym c.has_index.ensures ∙ c.if-has_index.true)

pub loop-before-preserved : goal.loop-before-preserved
loop-before-preserved c =
    rest_goes_on c.args.list.now c.loop-before.before c.loop-before-test.true c.loop-before.invariant (sym c.has_index.ensures ∙ c.if-has_index.false)

pub returns : goal.returns
returns c = rest_at_end c.args.list.now c.loop-before.before c.loop-before-test.false c.loop-before.invariant
