-- Each part that stands hands on to the next.
use Rattle.std.proofs.Common.{refl}
use Rattle.music_setup.specs.Apps.{parts_in}
use Rattle.music_setup.proofs.apps.read_parts.Goals as goal

pub returns-then-not-has_few_values-clause-fault : goal.returns-then-not-has_few_values-clause-fault
unfolding parts_in
returns-then-not-has_few_values-clause-fault c =
    let rules = rw c.as_slice.ensures at c.in_ok-rules.ensures.rules in
    let few = rw (c.as_slice-2.ensures, c.steps_in.ensures, c.if-not-has_few_values.true) at c.has_few_values.ensures in
    rw (← c.in_ok-setting.ensures, c.in_ok-ports.ensures.ports, ← c.in_ok-args.ensures, rules, ← few) refl

pub returns-clause-parts : goal.returns-clause-parts
unfolding parts_in
returns-clause-parts c =
    let rules = rw c.as_slice.ensures at c.in_ok-rules.ensures.rules in
    let few = rw (c.as_slice-2.ensures, c.steps_in.ensures, c.if-not-has_few_values.false) at c.has_few_values.ensures in
    rw (← c.in_ok-setting.ensures, c.in_ok-ports.ensures.ports, ← c.in_ok-args.ensures, rules, ← few) refl
