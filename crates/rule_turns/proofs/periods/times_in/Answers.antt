use Rattle.std.proofs.Common.{◌≡◌, ◌+◌, arith, sym, refl}
use Rattle.scene_model.specs.Turns.{times_below}
use Rattle.rule_turns.proofs.Repeating.{start_close, below_times, times_pass, none_between}
use Rattle.rule_turns.proofs.periods.times_in.Goals as goal

pub overflow_mul-start : goal.overflow_mul-start
overflow_mul-start c = omega (arith, start_close c.args.every c.args.first c.args.from c.times_below-before.result c.requires.period c.times_below-before.ensures)

pub overflow_add-start : goal.overflow_add-start
overflow_add-start c = omega (arith, start_close c.args.every c.args.first c.args.from c.times_below-before.result c.requires.period c.times_below-before.ensures)

pub overflow_sub-count : goal.overflow_sub-count
overflow_sub-count c = omega (arith, times_pass c.args.every c.args.first c.args.to c.times_below-before.result c.times_below.result c.requires.period c.times_below.ensures c.if-start-to.true)

pub returns-then-start-to-clause-last : goal.returns-then-start-to-clause-last
returns-then-start-to-clause-last c i lt = omega (arith, below_times c.args.every c.args.first c.args.to (c.times_below-before.result + i) c.times_below.result c.requires.period c.times_below.ensures (omega arith))

pub returns-else-start-to-clause-count : goal.returns-else-start-to-clause-count
returns-else-start-to-clause-count c =
    let at : c.times_below-before.result ≡ times_below c.args.every c.args.first c.args.from = c.times_below-before.ensures in
    sym (none_between c.args.every c.args.first c.args.from c.args.to (times_below c.args.every c.args.first c.args.from) (times_below c.args.every c.args.first c.args.to) c.requires.period refl refl (rw (← at) (omega arith)))
