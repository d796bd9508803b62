use Rattle.std.proofs.Common.{◌∙◌, []}
use Rattle.rule_turns.proofs.Moving.{is_over-placed}
use Rattle.rule_turns.proofs.emission.is_over.Goals as goal

pub returns : goal.returns
returns c = c.is_over_at.ensures ∙ is_over-placed [] c.args.block.now c.args.place c.args.rule.now c.requires
