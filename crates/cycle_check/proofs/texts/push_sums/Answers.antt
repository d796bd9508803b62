use Rattle.std.proofs.Common.{[], ◌∷◌, rules, codes, FitsSigned}
use Rattle.std.specs.Fmt.{signed_decimal}
use Rattle.std.proofs.lemmas.Int.{to_z-of_z}
use mir.Syntax.{w128}
use Rattle.scene_model.specs.Cover.{allowances, burdens}
use Rattle.music_base.specs.Lines.{line_end}
use Rattle.cycle_check.specs.CycleTexts.{sums_line}
use Rattle.cycle_check.proofs.JoinedLines.{joined_sums}
use Rattle.cycle_check.proofs.texts.push_sums.Goals as goal

pub returns : goal.returns
unfolding sums_line
returns c =
    let allowances_fit : FitsSigned w128 c.allowances-allowances.result = search rules in
    let burdens_fit : FitsSigned w128 c.burdens-burdens.result = search rules in
    rw (
      c.in_ok-push.ensures.items,
      c.in_ok-push_labelled-2.ensures,
      c.in_ok-push_labelled.ensures,
      to_z-of_z w128 c.allowances-allowances.result allowances_fit,
      to_z-of_z w128 c.burdens-burdens.result burdens_fit,
      c.allowances-allowances.ensures,
      c.burdens-burdens.ensures,
    )
    (joined_sums c.args.text.now.items (codes "allowances ") (signed_decimal (allowances c.args.waits.now)) (codes ", burdens ") (signed_decimal (burdens c.args.waits.now)) (line_end ∷ []))
