use Rattle.std.proofs.Common.{◌∙◌, sym}
use Rattle.port_inbox.proofs.Placing.{values-next}
use Rattle.port_inbox.proofs.kept_sample.are_values.Goals as goal

pub loop-place-preserved : goal.loop-place-preserved
loop-place-preserved c = record {
  sized = c.loop-place.invariant.sized;
  values = values-next c.args.indices.now c.args.items.now c.loop-place.place c.index-items-place.result c.loop-place-test.true c.loop-place.invariant.sized c.index-items-place.is (sym c.is_value_of.ensures ∙ c.if-not-is_value_of.false) c.loop-place.invariant.values;
}
