use Rattle.std.proofs.Common.{◌<◌, ◌≤◌, ◌^◌, ◌∙◌, ap, length, sym, subst, arith}
use Rattle.std.specs.Fmt.{decimal}
use Rattle.run_logs.proofs.DigitCounts.{as_one, fewer_digits, least_size, more_digits, powers_at}
use Rattle.run_logs.proofs.sizes.size_of.Goals as goal

pub returns-then-counted-least-clause-size : goal.returns-then-counted-least-clause-size
returns-then-counted-least-clause-size c =
    let power = c.ilog2.result in
    let counted = c.max-counted.result in
    let below : counted < 10 ^ least_size power = subst (λ p. counted < p) (powers_at (least_size power) (omega (arith, c.ilog2.ensures.bound))) c.if-counted-least.true in
    sym (fewer_digits power counted c.ilog2.ensures.bound (omega (arith, c.max-counted.ensures)) (omega (arith, c.max-counted.type_inv)) c.ilog2.ensures.power_le below)
    ∙ ap (λ n. length (decimal n)) c.max-counted.ensures ∙ as_one c.args.number

pub returns-else-counted-least-clause-size : goal.returns-else-counted-least-clause-size
returns-else-counted-least-clause-size c =
    let power = c.ilog2.result in
    let counted = c.max-counted.result in
    let from : 10 ^ least_size power ≤ counted = subst (λ p. p ≤ counted) (powers_at (least_size power) (omega (arith, c.ilog2.ensures.bound))) c.if-counted-least.false in
    sym (more_digits power counted c.ilog2.ensures.bound (omega (arith, c.max-counted.type_inv)) c.ilog2.ensures.next_power_gt from)
    ∙ ap (λ n. length (decimal n)) c.max-counted.ensures ∙ as_one c.args.number
