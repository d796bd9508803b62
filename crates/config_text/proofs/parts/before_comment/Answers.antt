use Rattle.std.proofs.Common.{◌≡◌, false, not, ◌&&◌, cond, get_or, refl}
use Rattle.std.proofs.lemmas.Bool.{eq-eqb, ne_eqb}
use Rattle.config_text.specs.Bytes.{is_comment_sign, is_quote}
use Rattle.config_text.proofs.Comments.{comment_starts, comment_goes}
use Rattle.config_text.proofs.parts.before_comment.Goals.{else-even-via-then-even+else-b-eq35, else-even-via-else-even, then-b-eq34, else-b-eq34}
use Rattle.config_text.proofs.parts.before_comment.Goals as goal

pub returns-then-b-eq35 : goal.returns-then-b-eq35
returns-then-b-eq35 c = comment_starts c.args.line.now c.loop-i.even c.loop-i.i c.loop-i-test.true c.if-even.true c.if-b-eq35.true c.loop-i.invariant

pub loop-i-preserved : goal.loop-i-preserved
loop-i-preserved c =
    let byte = get_or c.args.line.now c.loop-i.i 0 in
    let goes : (c.loop-i.even && is_comment_sign byte) ≡ false = elim c.else-even.branch [
      | else-even-via-then-even+else-b-eq35 w ↦ rw (w.if-even.true, ne_eqb byte 35 w.if-b-eq35.false) refl
      | else-even-via-else-even w ↦ rw w.if-even.false refl
    ] in
    let next : c.if-b-eq34.even ≡ cond (is_quote byte) (not c.loop-i.even) c.loop-i.even = elim c.if-b-eq34.branch [
      | then-b-eq34 w ↦ rw (w.even-is, eq-eqb byte 34 w.if-b-eq34.true) refl
      | else-b-eq34 w ↦ rw (w.even-is, ne_eqb byte 34 w.if-b-eq34.false) refl
    ] in
    comment_goes c.args.line.now c.loop-i.even c.if-b-eq34.even c.loop-i.i c.loop-i-test.true goes next c.loop-i.invariant
