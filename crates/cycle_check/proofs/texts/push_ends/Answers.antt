use Rattle.std.proofs.Common.{map, codes}
use Rattle.cycle_check.specs.CycleTexts.{name_at}
use Rattle.cycle_check.proofs.JoinedLines.{joined_ends}
use Rattle.cycle_check.proofs.texts.push_ends.Goals as goal

pub returns : goal.returns
returns c =
    let names = map (λ name. name.now) c.args.names.now in
    rw (
      c.in_ok-extend_from_slice-3.ensures.items,
      c.in_ok-extend_from_slice-2.ensures.items,
      c.in_ok-extend_from_slice.ensures.items,
      c.name_at-2.ensures,
      c.name_at.ensures,
    )
    (joined_ends c.args.text.now.items (name_at names c.args.wait.now.waiter) (codes " waits for ") (name_at names c.args.wait.now.awaited))
