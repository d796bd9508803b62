use Rattle.std.proofs.Common.{◌∙◌}
use Rattle.port_match.proofs.Intervals.{below_intervals}
use Rattle.port_match.proofs.covering.all_below.Goals as goal

pub returns : goal.returns
returns c = c.all_end_within.ensures ∙ below_intervals c.args.width c.args.intervals.now c.requires
