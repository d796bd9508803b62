-- Each setting that stands hands on to the next.
use Rattle.std.proofs.Common.{refl}
use Rattle.music_setup.specs.Apps.{times_of}
use Rattle.music_setup.proofs.apps.read_times.Goals as goal

pub returns-then-not-are_few-clause-fault : goal.returns-then-not-are_few-clause-fault
unfolding times_of
returns-then-not-are_few-clause-fault c =
    rw (← c.in_ok-setting.ensures, ← c.is_script.ensures, c.if-not-is_script.false)
    rw (← c.in_ok-setting-2.ensures, ← c.tick_in.ensures.tick, c.in-Some.is)
    rw (← c.in_ok-setting-3.ensures, ← c.start_in.ensures, c.in-Some-start_in.is)
    rw (← c.in_ok-setting-4.ensures, ← c.end_in.ensures, c.in-Some-end_in.is, ← c.steps_in.ensures, ← c.are_few.ensures, c.if-not-are_few.true) refl

pub returns-clause-times : goal.returns-clause-times
unfolding times_of
returns-clause-times c =
    rw (← c.in_ok-setting.ensures, ← c.is_script.ensures, c.if-not-is_script.false)
    rw (← c.in_ok-setting-2.ensures, ← c.tick_in.ensures.tick, c.in-Some.is)
    rw (← c.in_ok-setting-3.ensures, ← c.start_in.ensures, c.in-Some-start_in.is)
    rw (← c.in_ok-setting-4.ensures, ← c.end_in.ensures, c.in-Some-end_in.is, ← c.steps_in.ensures, ← c.are_few.ensures, c.if-not-are_few.false) refl

pub returns-in_default-end_in-clause-fault : goal.returns-in_default-end_in-clause-fault
unfolding times_of
returns-in_default-end_in-clause-fault c =
    rw (← c.in_ok-setting.ensures, ← c.is_script.ensures, c.if-not-is_script.false)
    rw (← c.in_ok-setting-2.ensures, ← c.tick_in.ensures.tick, c.in-Some.is)
    rw (← c.in_ok-setting-3.ensures, ← c.start_in.ensures, c.in-Some-start_in.is)
    rw (← c.in_ok-setting-4.ensures, ← c.end_in.ensures, c.in_default-end_in.is) refl
