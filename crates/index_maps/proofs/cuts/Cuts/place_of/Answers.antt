use Rattle.std.proofs.Common.{◌-◌, arith, refl}
use Rattle.index_maps.proofs.Halving.{back_half, few_next, front_half, place_found, place_none}
use Rattle.index_maps.proofs.cuts.Cuts.place_of.Goals as goal

pub loop-low-preserved-in-Less : goal.loop-low-preserved-in-Less
loop-low-preserved-in-Less g c = record {
  counted = omega arith;
  search = front_half c.args.self.now c.args.global c.loop-low.low c.loop-low.high _ _ _ c.count-high.ensures.cuts c.loop-low.invariant.search c.loop-low-test.true refl (omega arith) c.in-Less.ensures.side;
}

pub returns-in-Equal-clause-place : goal.returns-in-Equal-clause-place
returns-in-Equal-clause-place g c =
    place_found c.args.self.now c.args.global c.loop-low.low c.loop-low.high _ (c.side.new.steps - c.args.steps.now) _ c.count-high.ensures.cuts c.loop-low.invariant.search c.loop-low-test.true refl (omega arith) c.in-Equal.ensures.side

pub returns-in-Equal-clause-few : goal.returns-in-Equal-clause-few
returns-in-Equal-clause-few g c =
    few_next c.args.self.now c.args.global c.loop-low.low c.loop-low.high _ _ _ c.count-high.ensures.cuts c.loop-low.invariant.search c.loop-low-test.true refl (omega arith)

pub loop-low-preserved : goal.loop-low-preserved
loop-low-preserved g c = record {
  counted = omega arith;
  search = back_half c.args.self.now c.args.global c.loop-low.low c.loop-low.high _ _ _ c.count-high.ensures.cuts c.loop-low.invariant.search c.loop-low-test.true refl (omega arith) c.in-Greater.ensures.side;
}

pub returns-clause-place : goal.returns-clause-place
returns-clause-place g c = place_none c.args.self.now c.args.global _ _ _ c.loop-low.invariant.search c.loop-low-test.false
