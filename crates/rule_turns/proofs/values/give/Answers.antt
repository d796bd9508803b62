use Rattle.rule_turns.specs.OneRule.{gives}
use Rattle.rule_turns.proofs.Ascending.{overlay-none}
use Rattle.rule_turns.proofs.Giving.{gives-none}
use Rattle.rule_turns.proofs.values.give.Goals as goal

pub returns-in_default : goal.returns-in_default
returns-in_default c =
    let block = c.args.block.now in
    overlay-none (gives block c.args.step c.args.rule.now) c.args.items.now
    (gives-none block c.args.step c.args.rule.now c.in_default.not-SetValue c.in_default.not-Ramp c.in_default.not-CopyValues)
