use Rattle.music_cli.specs.PlanTexts.{plan_line}
use Rattle.music_cli.proofs.PlanLines.{joined_line}
use Rattle.music_cli.proofs.plan_text.push_line.Goals as goal

pub returns : goal.returns
unfolding plan_line
returns c =
    rw (
      c.in_ok-extend_from_slice-5.ensures.items,
      c.in_ok-extend_from_slice-4.ensures.items,
      c.in_ok-extend_from_slice-3.ensures.items,
      c.in_ok-extend_from_slice-2.ensures.items,
      c.in_ok-extend_from_slice.ensures.items,
      c.in_ok-push_ends.ensures,
      c.as_bytes.ensures.value,
      c.format.ensures.text,
      c.how_text.ensures,
    )
    (joined_line c.args.text.now.items _ _ _ _ _ _)
