use Rattle.std.proofs.Common.{◌++◌, take, arith}
use Rattle.std.proofs.lemmas.Grind.{common_steps}
use Rattle.music_base.proofs.Transfers.{Gave-append}
use Rattle.music_base.proofs.streams.read_all.Goals.{else-loop-piece-test, then-loop-piece-test+in-Ok+then-count-eq0}
use Rattle.music_base.proofs.streams.read_all.Goals as goal

pub returns-in_default-extend_from_slice-clause-no_more : goal.returns-in_default-extend_from_slice-clause-no_more
returns-in_default-extend_from_slice-clause-no_more g c =
    (c.loop-piece.bytes.items ++ take c.in-Ok.count c.read.new.into, (Gave-append _ _ _ _ _ c.loop-piece.invariant.read c.in-Ok.ensures.bytes, grind (arith, common_steps, c.in-Ok.ensures.within)))

pub returns-clause-whole : goal.returns-clause-whole
returns-clause-whole g c fewer = elim c.loop-piece-test.branch [
  | else-loop-piece-test w ↦ absurd (omega (arith, fewer, w.loop-piece-test.false, c.len.ensures, c.loop-piece.bytes.ok.0))
  | then-loop-piece-test+in-Ok+then-count-eq0 w ↦ rw w.source-is (w.in-Ok.ensures.end w.if-count-eq0.true (grind (arith, common_steps, w.min-room.ensures, w.loop-piece-test.true, w.len-in-loop-piece.ensures)))
]
