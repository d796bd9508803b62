use Rattle.std.proofs.Common.{rules, FitsSigned}
use Rattle.std.proofs.lemmas.Int.{to_z-of_z}
use mir.Syntax.{w128}
use Rattle.cycle_check.specs.CycleTexts.{wait_line}
use Rattle.cycle_check.proofs.JoinedLines.{joined_wait}
use Rattle.cycle_check.proofs.texts.push_wait.Goals as goal

pub returns : goal.returns
unfolding wait_line
returns c =
    let allowance_fits : FitsSigned w128 c.args.wait.now.allowance = search rules in
    let burden_fits : FitsSigned w128 c.args.wait.now.burden = search rules in
    rw (
      c.in_ok-push.ensures.items,
      c.in_ok-push_labelled-2.ensures,
      c.in_ok-push_labelled.ensures,
      c.in_ok-push_link.ensures,
      c.in_ok-push_ends.ensures,
      to_z-of_z w128 c.args.wait.now.allowance allowance_fits,
      to_z-of_z w128 c.args.wait.now.burden burden_fits,
    )
    (joined_wait c.args.text.now.items _ _ _ _ _ _ _)
