use Rattle.std.proofs.Common.{◌≡◌, ◌+◌, ◌∙◌, codes}
use Rattle.std.specs.Fmt.{decimal}
use Rattle.cycle_check.specs.CycleTexts.{kind_word}
use Rattle.cycle_check.proofs.JoinedLines.{joined_link}
use Rattle.cycle_check.proofs.texts.push_link.Goals as goal

pub returns : goal.returns
returns c =
    let number : c.from.result ≡ c.args.link = c.from.ensures ∙ c.link.view_is in
    rw (
      c.in_ok-extend_from_slice-4.ensures.items,
      c.in_ok-extend_from_slice-3.ensures.items,
      c.in_ok-extend_from_slice-2.ensures.items,
      c.in_ok-extend_from_slice.ensures.items,
      c.kind_word.ensures,
      c.as_bytes.ensures.value,
      c.format.ensures.text,
      number,
    )
    (joined_link c.args.text.now.items (codes ": connection ") (decimal (c.args.link + 1)) (codes ", ") (kind_word c.args.kind))
