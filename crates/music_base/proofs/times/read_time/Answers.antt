use Rattle.std.proofs.Common.{refl}
use Rattle.music_base.specs.Times.{time_value}
use Rattle.music_base.proofs.times.read_time.Goals as goal

pub returns-then-not-is_time_text : goal.returns-then-not-is_time_text
unfolding time_value
returns-then-not-is_time_text c =
    record { value = rw (← (rw c.cut-cut.ensures.text at c.is_time_text.ensures), c.if-not-is_time_text.true) refl }

pub returns : goal.returns
unfolding time_value
returns c = record {
  value = rw (
    ← (rw c.cut-cut.ensures.text at c.is_time_text.ensures),
    c.if-not-is_time_text.false,
    ← (rw c.cut-cut.ensures.text at c.digits_of.ensures.value),
    ← (rw c.cut-cut.ensures.text at c.raised.ensures),
    ← (rw c.cut-cut.ensures.text at c.lowered.ensures),
  ) c.scaled.ensures;
}
