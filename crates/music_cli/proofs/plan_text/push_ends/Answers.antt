use Rattle.music_cli.specs.PlanTexts.{ends_text}
use Rattle.music_cli.proofs.PlanLines.{joined_ends}
use Rattle.music_cli.proofs.plan_text.push_ends.Goals as goal

pub returns : goal.returns
unfolding ends_text
returns c =
    rw (
      c.in_ok-push_port-2.ensures,
      c.in_ok-extend_from_slice-3.ensures.items,
      c.in_ok-push_port.ensures,
      c.in_ok-extend_from_slice-2.ensures.items,
      c.in_ok-extend_from_slice.ensures.items,
      c.as_bytes.ensures.value,
      c.format.ensures.text,
      c.from.ensures,
      c.link.view_is,
      c.sender_of.ensures,
      c.output_of.ensures,
      c.receiver_of.ensures,
      c.input_of.ensures,
    )
    (joined_ends c.args.text.now.items _ _ _ _ _)
