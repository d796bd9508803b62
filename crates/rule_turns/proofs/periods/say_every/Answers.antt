use Rattle.std.proofs.Common.{◌≡◌, ◌+◌, ◌*◌, arith}
use Rattle.scene_model.specs.Turns.{message, times_below}
use Rattle.rule_turns.proofs.Repeating.{repeated_more, repeated_all}
use Rattle.rule_turns.proofs.periods.say_every.Goals as goal

pub loop-i-preserved : goal.loop-i-preserved
loop-i-preserved c =
    let at : c.times_in-times.result.start + c.loop-i.i * c.args.every ≡ c.args.first + (times_below c.args.every c.args.first c.args.from + c.loop-i.i) * c.args.every = omega arith in
    rw (c.in_ok-push.ensures.ok, c.in_ok-word.ensures) (repeated_more (message c.args.word.now) c.args.items.now c.loop-i.items c.args.every c.args.first (times_below c.args.every c.args.first c.args.from) c.loop-i.i _ c.loop-i.invariant at)

pub returns : goal.returns
returns c = repeated_all (message c.args.word.now) c.args.items.now c.loop-i.items c.args.every c.args.first c.args.from c.args.to c.loop-i.i c.loop-i.invariant (omega arith)
