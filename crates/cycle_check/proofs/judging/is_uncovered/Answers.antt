use mathlib.Core.Bool.{false≢true}
use Rattle.std.proofs.Common.{refl, rules, FitsSigned}
use mir.Syntax.{w128}
use Rattle.cycle_check.proofs.SumSteps.{judged}
use Rattle.cycle_check.proofs.judging.is_uncovered.Goals as goal

pub returns-then-not-are_among : goal.returns-then-not-are_among
returns-then-not-are_among c =
    rw (← c.as_slice-cycle.ensures.value) (λ no. absurd (false≢true no), λ found. c.if-not-are_among.ensures.1 found.cycle_of.among)

pub returns : goal.returns
returns c =
    let allowances_fit : FitsSigned w128 c.allowances.result = search rules in
    let burdens_fit : FitsSigned w128 c.burdens.result = search rules in
    rw (← c.as_slice-cycle.ensures.value)
    (judged c.args.waits.now c.as_slice-cycle.result.now c.allowances.result c.burdens.result allowances_fit burdens_fit c.allowances.ensures c.burdens.ensures
    (c.if-not-is_cycle.ensures.0 refl) (c.if-not-are_among.ensures.0 refl))
