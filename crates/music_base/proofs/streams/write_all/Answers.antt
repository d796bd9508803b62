use Rattle.std.proofs.Common.{◌∙◌, arith}
use Rattle.std.proofs.lemmas.List.{take_all}
use Rattle.music_base.proofs.Transfers.{Took-append, take-append-take_drop}
use Rattle.music_base.proofs.streams.write_all.Goals as goal

pub loop-done-preserved : goal.loop-done-preserved
loop-done-preserved g c = record {
  within = omega (arith, c.in_ok-done.ensures.within);
  taken = rw (← take-append-take_drop c.args.bytes.now c.loop-done.done c.in_ok-done.field-0 c.loop-done.invariant.within c.in_ok-done.ensures.within) (Took-append _ _ _ _ _ c.loop-done.invariant.taken c.in_ok-done.ensures.bytes);
  stays = c.in_ok-done.ensures.cause.stays ∙ c.loop-done.invariant.stays;
}

pub returns-clause-all : goal.returns-clause-all
returns-clause-all g c = rw (take_all c.loop-done.done c.args.bytes.now c.loop-done-test.false) at c.loop-done.invariant.taken
