use Rattle.std.proofs.Common.{◌∙◌, sym, arith}
use Rattle.app_turn.specs.OwnLinks.{same_end as same}
use Rattle.app_turn.proofs.Places.{counted_in, counted_out}
use Rattle.app_turn.proofs.opening.place_of.Goals.{then-same_end, else-same_end}
use Rattle.app_turn.proofs.opening.place_of.Goals as goal

pub loop-other-preserved : goal.loop-other-preserved
loop-other-preserved c = elim c.if-same_end.branch [
  | then-same_end w ↦ rw w.place-is (record {
    counts = counted_in (same c.args.scene.now c.args.link) c.loop-other.other c.loop-other.place (sym c.same_end.ensures ∙ w.if-same_end.true) c.loop-other.invariant.counts;
    at_most = omega (arith, c.loop-other.invariant.at_most);
  })
  | else-same_end w ↦ rw w.place-is (record {
    counts = counted_out (same c.args.scene.now c.args.link) c.loop-other.other c.loop-other.place (sym c.same_end.ensures ∙ w.if-same_end.false) c.loop-other.invariant.counts;
    at_most = omega (arith, c.loop-other.invariant.at_most);
  })
]
