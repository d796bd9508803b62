use Rattle.std.proofs.Common.{◌≡◌, ◌++◌}
use Rattle.music_cli.specs.PlanTexts.{columns_line}
use Rattle.music_cli.proofs.PlanLines.{lines_below}
use Rattle.music_cli.proofs.plan_text.plan_text.Given as goal

abbrev pub invariant-loop-c : goal.invariant-loop-c
invariant-loop-c l = l.text.items ≡ columns_line ++ lines_below l.scene l.plan.limits.items l.c
